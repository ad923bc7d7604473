-- On results that are Ok.
use Rattle.std.proofs.Common.{◌≡◌, false}
use Rattle.std.specs.Prelude.{Result, Ok, Err, IsOk, OnOk}
use Rattle.std.specs.Result.{is_err}
use Rattle.std.proofs.lemmas.Bool.{false≢true}
use Rattle.std.proofs.Common.{refl}

pub ok_of_not_err : {A E : Type 0} (r : Result A E) → false ≡ is_err r → IsOk r
ok_of_not_err (Ok x) h = refl
ok_of_not_err (Err e) h = absurd (false≢true h)

pub on_ok : {A E : Type 0} (r : Result A E) (P : Type 0) → IsOk r → OnOk r P → P
on_ok (Ok x) P h p = p
on_ok (Err e) P h p = absurd (false≢true h)
