-- One index more, or less.
use Rattle.std.proofs.Common.{◌≡◌, ℕ, Bool, not, ◌&&◌, ◌||◌, refl, ap, ◌∙◌, eq-eqb}
use Rattle.std.specs.Ordering.{nat_cmp}
use Rattle.std.specs.Cmp.{nat_cmp_total, unsigned_tied}
use Rattle.std.specs.FinSet as set
use Rattle.std.proofs.lemmas.Bool.{ne_eqb}
use mathlib.Core.Path.{fun_ext}
use Rattle.hibits.specs.Left.{left}
use Rattle.hibits.specs.Members.{IsAdded, IsRemoved, HasNone}
use Rattle.hibits.specs.Sets.{has_part, has_part_zero}

pub is_added : (old new : set.FinSet nat_cmp) (id : ℕ) → new ≡ set.insert old id → IsAdded old id new
is_added old new id e = rw e (record {
  here = set.contains-insert nat_cmp_total old id id ∙ ap (λ b. b || set.contains old id) (unsigned_tied id id ∙ eq-eqb id id refl);
  others = λ i ne. set.contains-insert nat_cmp_total old id i ∙ ap (λ b. b || set.contains old i) (unsigned_tied i id ∙ ne_eqb i id ne);
  count = set.len-insert nat_cmp_total old id;
})

pub is_removed : (old new : set.FinSet nat_cmp) (id : ℕ) → new ≡ set.remove old id → IsRemoved old id new
is_removed old new id e = rw e (record {
  here = set.contains-remove nat_cmp_total old id id ∙ ap (λ b. not b && set.contains old id) (unsigned_tied id id ∙ eq-eqb id id refl);
  others = λ i ne. set.contains-remove nat_cmp_total old id i ∙ ap (λ b. not b && set.contains old i) (unsigned_tied i id ∙ ne_eqb i id ne);
  count = set.len-remove nat_cmp_total old id;
})

pub has_none : (s : set.FinSet nat_cmp) → s ≡ set.empty → HasNone s
has_none s e = rw e (record { each = set.contains-empty nat_cmp; count = set.len-empty nat_cmp })

-- the list of a walk is that of the members
pub same_list : (s : set.FinSet nat_cmp) → left (has_part s 0) 0 ≡ left (λ i. set.contains s i) 0
same_list s = ap (λ (p : ℕ → Bool). left p 0) (fun_ext (has_part_zero s))
