-- What a slice has at an index's place is what the map has there: proofs of the laws.
use Rattle.std.proofs.Common.{◌≡◌, ℕ, ◌<◌, Bool, true, false, nat_eq, cond, List, [], ◌∷◌, length, refl, ap, sym, ◌∙◌, zero, suc, arith, Some, is_some, IsTrue}
use Rattle.std.specs.Prelude.{Option}
use Rattle.std.specs.List.{slice_get, zip}
use Rattle.std.specs.Map.{lookup}
use Rattle.std.specs.Option.{unwrap_or}
use Rattle.std.proofs.lemmas.Bool.{false≢true, eq-eqb, eqb-true}
use Rattle.std.proofs.lemmas.Option.{slice_get_within}
use Rattle.storages.specs.Slices.{item_beside, Arranges, IsOptionSlice}
use Rattle.storages.specs.Vec.{flat, value_at}

-- the value beside an index that stands at one place
pub at_place : {T : Type 0} (ids : List ℕ) (xs : List T) (k q : ℕ) → slice_get ids k ≡ Some q → ((j : ℕ) → slice_get ids j ≡ Some q → j ≡ k) → k < length xs → item_beside ids xs q ≡ slice_get xs k
at_place [] xs k q e one h = absurd (false≢true (ap is_some e))
at_place (i ∷ is) [] k q e one h = absurd (omega arith)
at_place (i ∷ is) (x ∷ xs) zero q e one h = ap (λ b. cond b (Some x) (lookup (nat_eq q) (zip is xs))) (eq-eqb q i (sym (ap (λ (o : Option ℕ). unwrap_or o i) e)))
at_place (i ∷ is) (x ∷ xs) (suc k) q e one h = passed (nat_eq q i) refl ∙ at_place is xs k q e (λ j f. let p = one (suc j) f in omega arith) (omega arith)
  where
    passed : (b : Bool) → nat_eq q i ≡ b → cond b (Some x) (lookup (nat_eq q) (zip is xs)) ≡ lookup (nat_eq q) (zip is xs)
    passed true f = let p = one zero (ap Some (sym (eqb-true q i f))) in absurd (omega arith)
    passed false f = refl

module _ {T : Type 0} where
  pub option_slice_has : (at : ℕ → Option T) (extent : Option ℕ) (xs : List (Option T)) → IsOptionSlice at extent xs → (q : ℕ) → IsTrue (is_some (at q)) → value_at xs q ≡ at q
  option_slice_has at extent xs s q h = ap flat (s.each q (s.all q h))

  pub arrangement_has : (at : ℕ → Option T) (order : List ℕ) (xs : List T) → Arranges at order xs → (q : ℕ) → IsTrue (is_some (at q)) → item_beside order xs q ≡ at q
  arrangement_has at order xs s q h =
      let k = s.all q h in
      at_place order xs k.0 q k.1 (λ j e. s.once j k.0 q e k.1) (let a = slice_get_within order k.0 q k.1 in let b = s.lengths in omega arith) ∙ sym (s.each k.0 q k.1)
