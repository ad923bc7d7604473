-- A float is that of its bits.
use Rattle.std.proofs.Common.{◌≡◌, true, sym, subst, T, eq-eqb, refl, Some, nat_eq, if◌then◌else◌, None}
use Rattle.std.specs.Float.Ieee.{Float, Format, fits, of_bits, to_bits}
use lib.Ieee.Bits.{of_bits-to_bits}

pub bits_back : (f : Format) (x : Float) → fits f x ≡ true
    → (if nat_eq (to_bits f (of_bits f (to_bits f x))) (to_bits f x) then Some (of_bits f (to_bits f x)) else None) ≡ Some x
bits_back f x holds =
    let e : of_bits f (to_bits f x) ≡ x = of_bits-to_bits f x (subst T (sym holds) tt) in
    rw (e, eq-eqb (to_bits f x) (to_bits f x) refl) refl
