-- On tests of two.
use Rattle.std.specs.Prelude.{◌≡◌, Bool, true, false, ◌&&◌, not, ◌||◌, refl, Option, Some, None, MatchOption}

-- where each of two follows from another, both follow from both
pub both_follow : (a b c d : Bool) → (a ≡ true → c ≡ true) → (b ≡ true → d ≡ true) → (a && b) ≡ true → (c && d) ≡ true
both_follow true b true d f g e = g e
both_follow true b false d f g e = f refl
both_follow false b c d f g e = cc

-- and one that is only asked for where a third holds
pub asked_follows : (a m b c : Bool) → (b ≡ true → c ≡ true) → (a && (not m || b)) ≡ true → (a && (not m || c)) ≡ true
asked_follows true true b c f e = f e
asked_follows true false b c f e = refl
asked_follows false m b c f e = cc

-- what holds of a value that is there follows from what holds of it
pub found_follows : {X : Type 0} (o : Option X) (b : Bool) (P Q : X → Type 0) → ((x : X) → P x → Q x) → MatchOption o (b ≡ false) (λ x. (b ≡ true) × P x) → MatchOption o (b ≡ false) (λ x. (b ≡ true) × Q x)
found_follows None b P Q f h = h
found_follows (Some x) b P Q f h = (h.0, f x h.1)
