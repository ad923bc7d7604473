-- What a reader of one slot has, from one table to the next.
use Rattle.std.proofs.Common.{◌≡◌, ◌≢◌, ◌<◌, ◌∙◌, ℕ, Bool, List, [], ◌++◌, refl, sym, ap, subst, Option, Some, None, inl, inr, append_assoc, pos}
use Rattle.std.specs.Prelude.{IsSome, MatchOption, ◌⊎◌}
use Rattle.std.specs.Cmp.{signed_Decides}
use Rattle.std.specs.Option.{option_map}
use Rattle.std.specs.Ordering.{int_eq}
use Rattle.std.proofs.lemmas.Bool.{false≢true, cases_Bool, both_ways}
use Rattle.hibits.specs.declared.limits.TheConstants.{INDEX_LIMIT}
use Rattle.entities.specs.declared.entity.Entity.{Entity}
use Rattle.entities.specs.Population.{Population, IsAlive, index_of, generation_of, lives}
use Rattle.storages.specs.declared.event.ComponentEvent.{ComponentEvent}
use Rattle.specs.specs.Slots.Column.{Column, without_values}
use Rattle.specs.specs.Slots.Table.{Table, Becomes, Begins, Inserts, Removes}
use Rattle.specs.specs.World.State.{State, OnTable}
use Rattle.specs.specs.Laws.Reached.{OnlyLiving}
use Rattle.specs.specs.Reading.Following.{IsListening, IsFollowed, Advances, Tells, unread_at, values_of}
use Rattle.specs.specs.Reading.Advancing.{IsBelow, Keeps, stays, puts, takes, loses}
use Rattle.specs.specs.Reading.Leads.{leads_more}

some_below : {V : Type 0} (o : Option (Column V)) → ((c : Column V) (i : ℕ) → o ≡ Some c → IsSome (c.values i) → i < INDEX_LIMIT) → IsBelow o
some_below None below i h = absurd (false≢true h)
some_below (Some c) below i h = below c i refl h

pub living_below : {K V : Type 0} (slot : K) (s : State K V) → OnlyLiving s → IsBelow (s.table slot)
living_below slot s w = some_below (s.table slot) (λ c i is has. w.below i (w.born i (w.values slot c i is has)))

-- an entity lives or not
pub alive_or_not : (p : Population) (e : Entity) → IsAlive p e ⊎ (IsAlive p e → ⊥)
alive_or_not p e = elim (cases_Bool (lives p (index_of e))) [
  | inl on ↦ elim (cases_Bool (int_eq (generation_of e) (pos (p.births (index_of e))))) [
    | inl same ↦ inl (on, (signed_Decides (generation_of e) (pos (p.births (index_of e)))).0 same)
    | inr other ↦ inr (λ a. both_ways _ other ((signed_Decides (generation_of e) (pos (p.births (index_of e)))).1 a.1))
  ]
  | inr off ↦ inr (λ a. both_ways _ off a.0)
]

-- what follows one part of a run and then the other follows both
pub advances_more : {V : Type 0} (n : ℕ) (a b c : Option (Column V)) (g h : List ComponentEvent) → Advances n a b g → Advances n b c h → Advances n a c (g ++ h)
advances_more n a b c g h f k = record {
  events = f.events ++ k.events;
  leads = leads_more (values_of a) (values_of b) (values_of c) f.events k.events f.leads k.leads;
  told =
      append_assoc g h (unread_at n c) ∙ ap (λ xs. g ++ xs) k.told ∙ sym (append_assoc g (unread_at n b) k.events)
      ∙ ap (λ xs. xs ++ k.events) f.told ∙ append_assoc (unread_at n a) f.events k.events;
}

-- a slot is this one or not
pub is_or_not : {K : Type 0} (slot : K) (here : K → Bool) → Tells here slot → (s : K) → (s ≡ slot) ⊎ (s ≢ slot)
is_or_not slot here tells s = elim (cases_Bool (here s)) [ inl on ↦ inl ((tells s).0 on) | inr off ↦ inr (λ e. both_ways _ off ((tells s).1 e)) ]

module _ {K V : Type 0} (slot : K) (n : ℕ) where
  -- what the reader of the slot has from one table to the next
  abbrev pub KeepsAt : Table K V → Table K V → List ComponentEvent → Type 0
  KeepsAt old new given = Keeps n (old slot) (new slot) given

  pub same_slot : (old new : Table K V) → new slot ≡ old slot → IsListening n (old slot) → KeepsAt old new []
  same_slot old new same l = subst (λ (o : Option (Column V)). Keeps n (old slot) o []) (sym same) (stays n (old slot) l)

  pub same_table : (old new : Table K V) → new ≡ old → IsListening n (old slot) → KeepsAt old new []
  same_table old new same l = same_slot old new (ap (λ (t : Table K V). t slot) same) l

  -- what it has where the values of a list are let go
  pub dropped_keeps : (es : List Entity) (old new : Table K V) → new slot ≡ option_map (without_values es) (old slot) → IsListening n (old slot) → KeepsAt old new []
  dropped_keeps es old new is l = subst (λ (o : Option (Column V)). Keeps n (old slot) o []) (sym is) (loses n es (old slot) l)

module _ {K V : Type 0} (slot : K) (n : ℕ) (here : K → Bool) (tells : Tells here slot) where
  -- one slot's column changed
  pub one_slot : (s : K) (old new : Table K V) (c c' : Column V) (es : List ComponentEvent) → old s ≡ Some c → Becomes old s c' new → IsListening n (old slot)
      → (s ≡ slot → IsListening n (Some c) → Keeps n (Some c) (Some c') es) → (s ≢ slot → es ≡ []) → KeepsAt slot n old new es
  one_slot s old new c c' es was b l change none = elim (is_or_not slot here tells s) [
    | inl same ↦
        let before : old slot ≡ Some c = subst (λ t. old t ≡ Some c) same was in
        let after : new slot ≡ Some c' = subst (λ t. new t ≡ Some c') same b.here in
        subst (λ (o : Option (Column V)). Keeps n o (new slot) es) (sym before) (subst (λ (o : Option (Column V)). Keeps n (Some c) o es) (sym after) (change same (subst (IsListening n) before l)))
    | inr other ↦ subst (λ (gs : List ComponentEvent). KeepsAt slot n old new gs) (sym (none other)) (same_slot slot n old new (b.others slot (λ q. other (sym q))) l)
  ]

  -- and the reader was given nothing
  pub one_quiet : (s : K) (old new : Table K V) (c c' : Column V) → old s ≡ Some c → Becomes old s c' new → IsListening n (old slot)
      → (s ≡ slot → IsListening n (Some c) → Keeps n (Some c) (Some c') []) → KeepsAt slot n old new []
  one_quiet s old new c c' was b l change = one_slot s old new c c' [] was b l change (λ _. refl)

  -- what an insertion leaves it
  pub inserted_keeps : (place : V → K) (old new : State K V) (e : Entity) (value : V) (before : Option V)
      → OnTable (λ t t'. Inserts place old.people t e value before t') old new → IsFollowed slot n old → KeepsAt slot n old.table new.table []
  inserted_keeps place old new e value before s l = one_quiet (place value) old.table new.table s.table.column _ s.table.registered s.table.put l (λ same. puts n s.table.column (index_of e) value)

  -- and a registration
  pub registered_keeps : (s : K) (old new : Table K V) (o : Option (Column V)) → o ≡ old s → MatchOption o (Begins old s new) (λ _. new ≡ old) → IsListening n (old slot) → KeepsAt slot n old new []
  registered_keeps s old new None e r l = elim (is_or_not slot here tells s) [
    | inl same ↦ absurd (subst (λ (o : Option (Column V)). IsListening n o) (sym (subst (λ t. None ≡ old t) same e)) l)
    | inr other ↦ same_slot slot n old new (r.becomes.others slot (λ q. other (sym q))) l
  ]
  registered_keeps s old new (Some c) e r l = same_table slot n old new r l

  -- and a removal
  pub removed_keeps : (p : Population) (s : K) (e : Entity) (found : Option V) (old new : Table K V) → Removes p old s e found new → IsListening n (old slot) → KeepsAt slot n old new []
  removed_keeps p s e found old new r l = elim (alive_or_not p e) [
    | inl a ↦ one_quiet s old new r.column _ r.registered (r.alive a).1 l (λ same. takes n r.column (index_of e))
    | inr d ↦ same_table slot n old new (r.dead d).1 l
  ]
