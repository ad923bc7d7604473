-- A call on three parts of a struct at once.
use Rattle.std.specs.Prelude.{◌≡◌, Option, Some}
use Rattle.std.specs.Borrow.{Bor, MutBor}

-- A call on the three parts of a struct left it as n, with what the call left of each.
pub record OnThree {S M N O : Type 0} (one : Option M) (other : Option N) (third : Option O) (with_three : M → N → O → S)
    (post : MutBor M → MutBor N → MutBor O → MutBor M → MutBor N → MutBor O → Type 0) (n : S) : Type 0 where
  pub x : MutBor M
  pub y : MutBor N
  pub z : MutBor O
  pub x' : MutBor M
  pub y' : MutBor N
  pub z' : MutBor O
  pub at_x : one ≡ Some x.now
  pub at_y : other ≡ Some y.now
  pub at_z : third ≡ Some z.now
  pub called : post x y z x' y' z'
  pub is : n ≡ with_three x'.now y'.now z'.now

-- The same of a call that also reads what stands beside the three.
pub record OnThreeBeside {S E M N O : Type 0} (beside : E) (one : Option M) (other : Option N) (third : Option O) (with_three : M → N → O → S)
    (post : Bor E → MutBor M → MutBor N → MutBor O → MutBor M → MutBor N → MutBor O → Type 0) (n : S) : Type 0 where
  pub e : Bor E
  pub x : MutBor M
  pub y : MutBor N
  pub z : MutBor O
  pub x' : MutBor M
  pub y' : MutBor N
  pub z' : MutBor O
  pub at_e : e.now ≡ beside
  pub at_x : one ≡ Some x.now
  pub at_y : other ≡ Some y.now
  pub at_z : third ≡ Some z.now
  pub called : post e x y z x' y' z'
  pub is : n ≡ with_three x'.now y'.now z'.now

-- A call took m, n and o to m', n' and o'.
pub record CallsThree {M N O : Type 0} (m : M) (n : N) (o : O) (m' : M) (n' : N) (o' : O) (post : MutBor M → MutBor N → MutBor O → MutBor M → MutBor N → MutBor O → Type 0) : Type 0 where
  pub x : MutBor M
  pub y : MutBor N
  pub z : MutBor O
  pub x' : MutBor M
  pub y' : MutBor N
  pub z' : MutBor O
  pub at_x : x.now ≡ m
  pub at_y : y.now ≡ n
  pub at_z : z.now ≡ o
  pub is_x : x'.now ≡ m'
  pub is_y : y'.now ≡ n'
  pub is_z : z'.now ≡ o'
  pub called : post x y z x' y' z'

-- A call that reads e took m, n and o to m', n' and o'.
pub record CallsThreeBeside {E M N O : Type 0} (e : E) (m : M) (n : N) (o : O) (m' : M) (n' : N) (o' : O)
    (post : Bor E → MutBor M → MutBor N → MutBor O → MutBor M → MutBor N → MutBor O → Type 0) : Type 0 where
  pub b : Bor E
  pub x : MutBor M
  pub y : MutBor N
  pub z : MutBor O
  pub x' : MutBor M
  pub y' : MutBor N
  pub z' : MutBor O
  pub at_b : b.now ≡ e
  pub at_x : x.now ≡ m
  pub at_y : y.now ≡ n
  pub at_z : z.now ≡ o
  pub is_x : x'.now ≡ m'
  pub is_y : y'.now ≡ n'
  pub is_z : z'.now ≡ o'
  pub called : post b x y z x' y' z'
