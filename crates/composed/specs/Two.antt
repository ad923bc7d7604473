-- A call on two parts of a struct at once.
use Rattle.std.specs.Prelude.{◌≡◌, Option, Some}
use Rattle.std.specs.Borrow.{Bor, MutBor}

-- A call on the two parts of a struct left it as n, with what the call left of each.
pub record OnTwo {S M N : Type 0} (one : Option M) (other : Option N) (with_two : M → N → S) (post : MutBor M → MutBor N → MutBor M → MutBor N → Type 0) (n : S) : Type 0 where
  pub x : MutBor M
  pub y : MutBor N
  pub x' : MutBor M
  pub y' : MutBor N
  pub at_x : one ≡ Some x.now
  pub at_y : other ≡ Some y.now
  pub called : post x y x' y'
  pub is : n ≡ with_two x'.now y'.now

-- The same of a call that also reads what stands beside both.
pub record OnTwoBeside {S E M N : Type 0} (beside : E) (one : Option M) (other : Option N) (with_two : M → N → S)
    (post : Bor E → MutBor M → MutBor N → MutBor M → MutBor N → Type 0) (n : S) : Type 0 where
  pub e : Bor E
  pub x : MutBor M
  pub y : MutBor N
  pub x' : MutBor M
  pub y' : MutBor N
  pub at_e : e.now ≡ beside
  pub at_x : one ≡ Some x.now
  pub at_y : other ≡ Some y.now
  pub called : post e x y x' y'
  pub is : n ≡ with_two x'.now y'.now

-- The same of a call that also writes to what stands beside both, which ends as e_n.
pub record OnTwoAnd {S E M N : Type 0} (beside : E) (one : Option M) (other : Option N) (with_two : M → N → S)
    (post : MutBor E → MutBor M → MutBor N → MutBor E → MutBor M → MutBor N → Type 0) (e_n : E) (n : S) : Type 0 where
  pub e : MutBor E
  pub x : MutBor M
  pub y : MutBor N
  pub e' : MutBor E
  pub x' : MutBor M
  pub y' : MutBor N
  pub at_e : e.now ≡ beside
  pub at_x : one ≡ Some x.now
  pub at_y : other ≡ Some y.now
  pub called : post e x y e' x' y'
  pub is_e : e_n ≡ e'.now
  pub is : n ≡ with_two x'.now y'.now

-- The same of a call that writes to two things beside both, which end as d_n and e_n.
pub record OnTwoWith {S D E M N : Type 0} (first : D) (rest : E) (one : Option M) (other : Option N) (with_two : M → N → S)
    (post : MutBor D → MutBor E → MutBor M → MutBor N → MutBor D → MutBor E → MutBor M → MutBor N → Type 0) (d_n : D) (e_n : E) (n : S) : Type 0 where
  pub d : MutBor D
  pub e : MutBor E
  pub x : MutBor M
  pub y : MutBor N
  pub d' : MutBor D
  pub e' : MutBor E
  pub x' : MutBor M
  pub y' : MutBor N
  pub at_d : d.now ≡ first
  pub at_e : e.now ≡ rest
  pub at_x : one ≡ Some x.now
  pub at_y : other ≡ Some y.now
  pub called : post d e x y d' e' x' y'
  pub is_d : d_n ≡ d'.now
  pub is_e : e_n ≡ e'.now
  pub is : n ≡ with_two x'.now y'.now

-- A call that reads e took m and n to m' and n'.
pub record CallsBeside {E M N : Type 0} (e : E) (m : M) (n : N) (m' : M) (n' : N) (post : Bor E → MutBor M → MutBor N → MutBor M → MutBor N → Type 0) : Type 0 where
  pub b : Bor E
  pub x : MutBor M
  pub y : MutBor N
  pub x' : MutBor M
  pub y' : MutBor N
  pub at_b : b.now ≡ e
  pub at_x : x.now ≡ m
  pub at_y : y.now ≡ n
  pub is_x : x'.now ≡ m'
  pub is_y : y'.now ≡ n'
  pub called : post b x y x' y'
