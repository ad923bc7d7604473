-- The keys that are kept, by index.
use Rattle.std.proofs.Common.{◌≡◌, ◌<◌, ◌||◌, ℕ, Bool, true, cond, eqb, List, [], length, set, refl, ap, sym, ◌∙◌, Option, None, Vec, inl, inr}
use Rattle.std.specs.FinSet as set_of
use Rattle.std.specs.Ordering.{nat_cmp}
use Rattle.std.specs.Cmp.{nat_cmp_total, unsigned_tied}
use Rattle.std.specs.declared.cmp.Ordering.{Ordering}
use Rattle.std.specs.BTreeMap.{BTreeMap, is_at}
use Rattle.std.specs.Map.{lookup}
use Rattle.std.proofs.lemmas.Bool.{true≢false, cases_eq, eq-eqb, ne_eqb}
use Rattle.std.proofs.lemmas.List.{get_or-set_same, get_or-set_other}
use Rattle.hibits.specs.Left.{left-none}
use Rattle.key_index.specs.Keys.{IsListed, Exchanges, indices_with, is_key, items_of, key_at, list_at}
use Rattle.storages.specs.Slot.{Slot}
use Rattle.key_index.specs.Indexed.{Keeps, IsIndexOf, key_in}
use Rattle.key_index.proofs.Passing.{left-within}

-- the keys after a write
pub key_at-set : {Q : Type 0} (kept : List (Option Q)) (id : ℕ) (key : Option Q) → id < length kept → (i : ℕ) → key_at (set kept id key) i ≡ cond (eqb i id) key (key_at kept i)
key_at-set kept id key lt i =
    elim (cases_eq i id) [
      | inl same ↦ ap (key_at (set kept id key)) same ∙ get_or-set_same kept id key None lt ∙ sym (ap (λ (b : Bool). cond b key (key_at kept i)) (eq-eqb i id same))
      | inr other ↦ get_or-set_other kept id i key None other ∙ sym (ap (λ (b : Bool). cond b key (key_at kept i)) (ne_eqb i id other))
    ]

module _ {Q : Type 0} {cmp : Q → Q → Ordering} where
  -- no keys, no lists
  pub listed_none : {Z : Type 0} (kept : List (Option Q)) (lists : BTreeMap Q (Vec ℕ Z)) → kept ≡ [] → lists.entries ≡ [] → IsListed cmp kept lists
  listed_none kept lists none empty = record {
    each = λ q.
        ap (λ es. items_of (lookup (is_at (cmp q)) es)) empty
        ∙ sym (ap (λ (ks : List (Option Q)). indices_with cmp (key_at ks) q) none ∙ left-none (λ i. is_key cmp q (key_at {Q = Q} [] i)) 0 (λ i _ _ e. true≢false (sym e)));
  }

  -- the same keys, the same lists
  pub listed_same : {Z : Type 0} (kept kept' : List (Option Q)) (lists lists' : BTreeMap Q (Vec ℕ Z)) → IsListed cmp kept lists → ((i : ℕ) → key_at kept' i ≡ key_at kept i) → ((q : Q) → list_at cmp lists' q ≡ list_at cmp lists q) → IsListed cmp kept' lists'
  listed_same kept kept' lists lists' listed keys same = record {
    each = λ q. same q ∙ listed.each q ∙ sym (left-within (λ i. is_key cmp q (key_at kept i)) (λ i. is_key cmp q (key_at kept' i)) (λ i _. ap (is_key cmp q) (keys i)));
  }

  -- another key of one index
  pub listed_after : {Z : Type 0} (kept kept' : List (Option Q)) (lists lists' : BTreeMap Q (Vec ℕ Z)) (id : ℕ) (old key : Option Q) → IsListed cmp kept lists → Exchanges cmp lists lists' id old key → key_at kept id ≡ old
      → ((i : ℕ) → key_at kept' i ≡ cond (eqb i id) key (key_at kept i)) → IsListed cmp kept' lists'
  listed_after kept kept' lists lists' id old key listed x was keys = record {
    each = λ q. x.each q (λ i. is_key cmp q (key_at kept i)) (λ i. is_key cmp q (key_at kept' i)) (ap (is_key cmp q) was)
        (ap (is_key cmp q) (keys id ∙ ap (λ (b : Bool). cond b key (key_at kept id)) (eq-eqb id id refl)))
        (λ j other. ap (is_key cmp q) (keys j ∙ ap (λ (b : Bool). cond b key (key_at kept j)) (ne_eqb j id other)))
        (listed.each q);
  }

-- where the keys of a storage are kept, the lists are those of the index from scratch
pub index_of_keys : {T Q : Type 0} (key : T → Q) (cmp : Q → Q → Ordering) (kept : List (Option Q)) (s : Slot T) → Keeps key kept s → IsIndexOf key cmp kept s
index_of_keys key cmp kept s keeps = record {
  each = λ q. left-within (λ i. is_key cmp q (key_in key s i)) (λ i. is_key cmp q (key_at kept i)) (λ i lt. ap (is_key cmp q) (keeps.each i lt));
}

-- what is put into a set is there
pub there_inserted : (s : set_of.FinSet nat_cmp) (k : ℕ) → set_of.contains (set_of.insert s k) k ≡ true
there_inserted s k = set_of.contains-insert nat_cmp_total s k k ∙ ap (λ b. b || set_of.contains s k) (unsigned_tied k k ∙ eq-eqb k k refl)
