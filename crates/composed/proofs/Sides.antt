-- What a table of two shows of a change of one of them.
use Rattle.std.proofs.Common.{◌≡◌, refl, sym, ap, ◌∙◌, inl, inr, ℕ, Bool, true, false, Option, Some, None}
use Rattle.std.specs.Prelude.{is_some}
use Rattle.std.proofs.lemmas.Bool.{false≢true}
use Rattle.entities.specs.declared.entity.Entity.{Entity}
use Rattle.entities.specs.Population.{Population}
use Rattle.specs.specs.Slots.Column.{Column}
use Rattle.specs.specs.Slots.Marks.{GivesMarker, FieldGivesMarker}
use Rattle.specs.specs.Slots.Table.{Table}
use Rattle.specs.specs.Laws.Reached.{HasNoValue}
use Rattle.specs.specs.Typed.Shows.{Shows}
use Rattle.specs.specs.Slots.Ids.{Ids, AllLeft, IdsAfter, LeftAfter}
use Rattle.composed.specs.Both.{table_of_both, of_either}
use Rattle.composed.specs.Exact.{sole_is}
use Rattle.composed.specs.declared.only.Sole.{Sole as OnlySlot}
use Rattle.composed.specs.declared.either.Either.TheVariants.{First, Rest}

-- a change of the first, and of the rest
pub in_first : {K L V W : Type 0} (t t' : Table K V) (u : Table L W) → Shows First First t t' (table_of_both t u) (table_of_both t' u)
in_first t t' u = record { before = λ k. refl; after = λ k. refl; only = elim [ First k ↦ inl (k, refl) | Rest l ↦ inr refl ] }

pub in_rest : {K L V W : Type 0} (t : Table K V) (u u' : Table L W) → Shows Rest Rest u u' (table_of_both t u) (table_of_both t u')
in_rest t u u' = record { before = λ k. refl; after = λ k. refl; only = elim [ First k ↦ inr refl | Rest l ↦ inl (l, refl) ] }

-- where no slot is registered, none has a value
pub has_no_value : {K V : Type 0} (t : Table K V) → ((k : K) → t k ≡ None) → HasNoValue t
has_no_value t none k m i e = absurd (false≢true (ap is_some (sym (none k) ∙ e)))

-- each id is left of both where each is of the first and of the rest
pub all_left : {K L : Type 0} (m : K → Bool) (n : L → Bool) (i : Ids K) (j : Ids L) → AllLeft m i → AllLeft n j → AllLeft (of_either m n) (of_either i j)
all_left m n i j a b = elim [ First k ↦ a k | Rest l ↦ b l ]

-- what a mark leaves of the ids of the first, and of the rest
pub ids_in_first : {K L : Type 0} (old new : Ids K) (rest : Ids L) (slot : K) (given : Option Bool) → IdsAfter given old slot new → IdsAfter given (of_either old rest) (First slot) (of_either new rest)
ids_in_first old new rest slot None same = ap (λ ids. of_either ids rest) same
ids_in_first old new rest slot (Some false) same = ap (λ ids. of_either ids rest) same
ids_in_first old new rest slot (Some true) takes = record { here = takes.here; others = elim [ First k ↦ λ d. takes.others k (λ e. d (ap First e)) | Rest l ↦ λ d. refl ] }

pub ids_in_rest : {K L : Type 0} (first : Ids K) (old new : Ids L) (slot : L) (given : Option Bool) → IdsAfter given old slot new → IdsAfter given (of_either first old) (Rest slot) (of_either first new)
ids_in_rest first old new slot None same = ap (λ ids. of_either first ids) same
ids_in_rest first old new slot (Some false) same = ap (λ ids. of_either first ids) same
ids_in_rest first old new slot (Some true) takes = record { here = takes.here; others = elim [ First k ↦ λ d. refl | Rest l ↦ λ d. takes.others l (λ e. d (ap Rest e)) ] }

-- what it leaves of one slot's, where that is the only one
pub ids_of_sole : (old new : Option ℕ) (slot : OnlySlot) (given : Option Bool) → LeftAfter given old new → IdsAfter given (λ (s : OnlySlot). old) slot (λ (s : OnlySlot). new)
ids_of_sole old new slot None same = ap (λ left (s : OnlySlot). left) same
ids_of_sole old new slot (Some false) same = ap (λ left (s : OnlySlot). left) same
ids_of_sole old new slot (Some true) takes = record { here = takes; others = λ s d. absurd (d (sole_is s slot)) }

-- and what it makes of the table, where what is given may come next
pub gives_sole : {V : Type 0} (Given Comes : V → Type 0) → ((v : V) → Given v → Comes v) → (p : Population) (old new : Option (Column V)) (e : Entity) (slot : OnlySlot) (given : Option Bool)
    → FieldGivesMarker Given p old e given new → GivesMarker Comes p (λ (s : OnlySlot). old) slot e given (λ (s : OnlySlot). new)
gives_sole Given Comes f p old new e slot None g = (g.0, g.1, ap (λ column (s : OnlySlot). column) g.2)
gives_sole Given Comes f p old new e slot (Some false) g = (g.0, ap (λ column (s : OnlySlot). column) g.1)
gives_sole Given Comes f p old new e slot (Some true) g = record {
  column = g.column;
  registered = g.registered;
  alive = g.alive;
  absent = g.absent;
  value = g.value;
  comes = f g.value g.comes;
  put = record { here = g.now; others = λ s d. absurd (d (sole_is s slot)) };
}
