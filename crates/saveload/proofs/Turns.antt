-- Markers given in turn.
use Rattle.std.proofs.Common.{◌≡◌, ℕ, Bool, List, [], ◌∷◌, ◌++◌, refl, subst, inl, inr}
use Rattle.std.specs.Prelude.{Option}
use Rattle.entities.specs.declared.entity.Entity.{Entity}
use Rattle.storages.specs.Slot.{Slot, IsSame}
use Rattle.saveload.specs.Marking.{MarksInTurn, MarksUntil, MayHaveGiven}

is_itself : {M : Type 0} (s : Slot M) → IsSame s s
is_itself s = record {
  map = refl;
  extent = refl;
  order = refl;
  channel = refl;
  needs_room = refl;
  room = λ n h. h;
  needs_inner = refl;
  inner_room = λ n h. h;
}

module _ {M I A : Type 0} (id_of : M → I) (eq : I → I → Bool) (MayBeNew : A → I → Type 0) (mapping : A → I → Option Entity) (ids : A → Option ℕ) where
  -- some, and then some more
  pub turns_then : (a b c : A) (s t u : Slot M) (xs ys : List Entity) → MarksInTurn id_of eq MayBeNew mapping ids a s xs b t → MarksInTurn id_of eq MayBeNew mapping ids b t ys c u
      → MarksInTurn id_of eq MayBeNew mapping ids a s (xs ++ ys) c u
  turns_then a b c s t u [] ys p q = subst (λ x. MarksInTurn id_of eq MayBeNew mapping ids x s ys c u) p.0 (subst (λ x. MarksInTurn id_of eq MayBeNew mapping ids b x ys c u) p.1 q)
  turns_then a b c s t u (x ∷ xs) ys p q = (p.0, p.1, p.2, p.3, turns_then p.0 b c p.1 t u xs ys p.4 q)

  -- some, and then some more until one is refused
  pub turns_until : (a b c : A) (s t u : Slot M) (xs : List Entity) → MarksInTurn id_of eq MayBeNew mapping ids a s xs b t → MarksUntil id_of eq MayBeNew mapping ids b t c u
      → MarksUntil id_of eq MayBeNew mapping ids a s c u
  turns_until a b c s t u xs p q = record {
    added = xs ++ q.added;
    mid = q.mid;
    there = q.there;
    marked = turns_then a b q.mid s t q.there xs q.added p q.marked;
    same = q.same;
    ids_left = q.ids_left;
    mapped = q.mapped;
  }

  -- some, and there it stops
  pub turns_end : (a b : A) (s t : Slot M) (xs : List Entity) → MarksInTurn id_of eq MayBeNew mapping ids a s xs b t → MarksUntil id_of eq MayBeNew mapping ids a s b t
  turns_end a b s t xs p = record {
    added = xs;
    mid = b;
    there = t;
    marked = p;
    same = is_itself t;
    ids_left = refl;
    mapped = inl refl;
  }

  -- the first one is refused
  pub refused_at_once : (a b : A) (s t : Slot M) (e : Entity) → IsSame s t → ids b ≡ ids a → MayHaveGiven eq (MayBeNew a) e (mapping a) (mapping b) → MarksUntil id_of eq MayBeNew mapping ids a s b t
  refused_at_once a b s t e same left given = record {
    added = [];
    mid = a;
    there = s;
    marked = (refl, refl);
    same = same;
    ids_left = left;
    mapped = inr (e, given);
  }
