-- Equal slots of two structs of storages are one.
use Rattle.std.proofs.Common.{◌≡◌, Bool, true, false, refl, sym, ap, ◌∙◌}
use Rattle.std.specs.Bool.{Decides}
use Rattle.std.proofs.lemmas.Bool.{false≢true}
use Rattle.composed.specs.declared.only.Sole.{Sole as OnlySlot}
use Rattle.composed.specs.declared.only.Sole.TheVariants.{Sole}
use Rattle.composed.specs.declared.either.Either.{Either}
use Rattle.composed.specs.declared.either.Either.TheVariants.{First, Rest}

-- there is one slot alone
pub sole_is : (a b : OnlySlot) → a ≡ b
sole_is Sole Sole = refl

module _ {K L : Type 0} where
  abbrev is_first : Either K L → Bool
  is_first (First x) = true
  is_first (Rest y) = false

  abbrev first_or : K → Either K L → K
  first_or d (First x) = x
  first_or d (Rest y) = d

  abbrev rest_or : L → Either K L → L
  rest_or d (First x) = d
  rest_or d (Rest y) = y

  -- a test of two that is that of the firsts and that of the rests
  pub exact_by : (test : Either K L → Either K L → Bool) (of_first : K → K → Bool) (of_rest : L → L → Bool)
      → ((x y : K) → test (First x) (First y) ≡ of_first x y) → ((x y : L) → test (Rest x) (Rest y) ≡ of_rest x y)
      → ((x : K) (y : L) → test (First x) (Rest y) ≡ false) → ((x : L) (y : K) → test (Rest x) (First y) ≡ false)
      → ((x y : K) → Decides (of_first x y) (x ≡ y)) → ((x y : L) → Decides (of_rest x y) (x ≡ y)) → (a b : Either K L) → Decides (test a b) (a ≡ b)
  exact_by test e g ff rr fr rf de dg (First x) (First y) = (λ h. ap First ((de x y).0 (sym (ff x y) ∙ h)), λ q. ff x y ∙ (de x y).1 (ap (first_or x) q))
  exact_by test e g ff rr fr rf de dg (Rest x) (Rest y) = (λ h. ap Rest ((dg x y).0 (sym (rr x y) ∙ h)), λ q. rr x y ∙ (dg x y).1 (ap (rest_or x) q))
  exact_by test e g ff rr fr rf de dg (First x) (Rest y) = (λ h. absurd (false≢true (sym (fr x y) ∙ h)), λ q. absurd (false≢true (sym (ap is_first q))))
  exact_by test e g ff rr fr rf de dg (Rest x) (First y) = (λ h. absurd (false≢true (sym (rf x y) ∙ h)), λ q. absurd (false≢true (ap is_first q)))
