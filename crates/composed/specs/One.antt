-- A call on one part of a struct, with what stands beside.
use Rattle.std.specs.Prelude.{◌≡◌, Option, Some}
use Rattle.std.specs.Borrow.{Bor, MutBor}

-- A call that also reads what stands beside the struct left it as n, with what the call left of the part.
pub record OnOneBeside {S E M : Type 0} (beside : E) (one : Option M) (with_one : M → S) (post : Bor E → MutBor M → MutBor M → Type 0) (n : S) : Type 0 where
  pub e : Bor E
  pub x : MutBor M
  pub x' : MutBor M
  pub at_e : e.now ≡ beside
  pub at_x : one ≡ Some x.now
  pub called : post e x x'
  pub is : n ≡ with_one x'.now
