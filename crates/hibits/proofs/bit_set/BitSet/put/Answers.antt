use Rattle.std.proofs.Common.{◌/◌, lit<, cond, not, ◌==◌, arith, sym, ap, ◌∙◌}
use Rattle.std.specs.FinSet as set
use Rattle.hibits.proofs.PageLemmas.{page_there, room_word, paged_put}
use Rattle.hibits.proofs.RowLemmas.{sound_put, sound_stays, put_members, same_tests, was_member}
use Rattle.hibits.proofs.bit_set.BitSet.put.Goals as goal

pub get_present-word-requires : goal.get_present-word-requires
get_present-word-requires c = (lit< tt, page_there _ c.args.id (ap (λ s. set.contains s.room (c.args.id / 4096)) c.self.view_is ∙ c.requires))

pub put_lowest-some-requires-clause-page : goal.put_lowest-some-requires-clause-page
put_lowest-some-requires-clause-page c = page_there _ c.args.id (ap (λ s. set.contains s.room (c.args.id / 4096)) c.self.view_is ∙ c.requires)

pub put_lowest-some-requires-clause-within : goal.put_lowest-some-requires-clause-within
put_lowest-some-requires-clause-within c = room_word _ _ _ _ _ _ c.self.invariant c.args.id (ap (λ s. set.contains s.room (c.args.id / 4096)) c.self.view_is ∙ c.requires)

pub update_above-requires-clause-layer1 : goal.update_above-requires-clause-layer1
update_above-requires-clause-layer1 c =
    let w = room_word _ _ _ _ _ _ c.self.invariant c.args.id (ap (λ s. set.contains s.room (c.args.id / 4096)) c.self.view_is ∙ c.requires) in
    omega (arith, w, c.self.invariant.rows.size0)

pub update_above-requires-clause-layer2 : goal.update_above-requires-clause-layer2
update_above-requires-clause-layer2 c =
    let w = room_word _ _ _ _ _ _ c.self.invariant c.args.id (ap (λ s. set.contains s.room (c.args.id / 4096)) c.self.view_is ∙ c.requires) in
    omega (arith, w, c.self.invariant.rows.size0, c.self.invariant.rows.size1)

pub update_above-requires-clause-layer3 : goal.update_above-requires-clause-layer3
update_above-requires-clause-layer3 c =
    let w = room_word _ _ _ _ _ _ c.self.invariant c.args.id (ap (λ s. set.contains s.room (c.args.id / 4096)) c.self.view_is ∙ c.requires) in
    omega (arith, w, c.self.invariant.rows.size0, c.self.invariant.rows.size1, c.self.invariant.rows.size2)

pub update_above-requires-clause-top : goal.update_above-requires-clause-top
update_above-requires-clause-top c =
    let w = room_word _ _ _ _ _ _ c.self.invariant c.args.id (ap (λ s. set.contains s.room (c.args.id / 4096)) c.self.view_is ∙ c.requires) in
    omega (arith, w, c.self.invariant.rows.size0, c.self.invariant.rows.size1, c.self.invariant.rows.size2, c.self.invariant.rows.size3, c.self.invariant.rows.size4)

pub invariant_of-self : goal.invariant_of-self
invariant_of-self c =
    let a = c.update_above.ensures in
    let p = c.put_lowest-some.ensures in
    record {
      rows = sound_put _ _ _ _ p.put _ _ _ _ _ _ _ _ c.self.invariant.rows (p.words c.self.invariant.rows.words0) a.words1 a.words2 a.words3 a.words4 (rw p.some at a.layer1) a.layer2 a.layer3 a.top;
      paged = rw p.pages (paged_put _ _ _ c.self.invariant.paged (c.args.id / 64) (page_there _ c.args.id (ap (λ s. set.contains s.room (c.args.id / 4096)) c.self.view_is ∙ c.requires)) p.put.len p.others);
    }

pub invariant_of-self-else-some-word : goal.invariant_of-self-else-some-word
invariant_of-self-else-some-word c =
    let p = c.put_lowest-some.ensures in
    let same = same_tests _ _ c.if-some-word.false in
    record {
      rows = sound_stays _ _ _ _ _ c.self.invariant.rows _ _ _ p.put (p.words c.self.invariant.rows.words0) (ap (λ n. not (n == 0)) (sym c.get_present-word.ensures) ∙ sym same ∙ p.some);
      paged = rw p.pages (paged_put _ _ _ c.self.invariant.paged (c.args.id / 64) (page_there _ c.args.id (ap (λ s. set.contains s.room (c.args.id / 4096)) c.self.view_is ∙ c.requires)) p.put.len p.others);
    }

pub returns-then-some-word-clause-was : goal.returns-then-some-word-clause-was
returns-then-some-word-clause-was c = was_member c.self.inside.layer0.items c.args.id c.get_present-word.result c.get_present-word.ensures ∙ ap (λ s. set.contains s.members c.args.id) c.self.view_is

pub returns-then-some-word-clause-members : goal.returns-then-some-word-clause-members
returns-then-some-word-clause-members c = put_members _ _ _ _ c.put_lowest-some.ensures.put ∙ ap (λ s. cond c.args.value (set.insert s.members c.args.id) (set.remove s.members c.args.id)) c.self.view_is

pub returns-then-some-word-clause-room : goal.returns-then-some-word-clause-room
returns-then-some-word-clause-room c = c.put_lowest-some.ensures.pages ∙ ap (λ s. s.room) c.self.view_is

pub returns-else-some-word-clause-was : goal.returns-else-some-word-clause-was
returns-else-some-word-clause-was c = was_member c.self.inside.layer0.items c.args.id c.get_present-word.result c.get_present-word.ensures ∙ ap (λ s. set.contains s.members c.args.id) c.self.view_is

pub returns-else-some-word-clause-members : goal.returns-else-some-word-clause-members
returns-else-some-word-clause-members c = put_members _ _ _ _ c.put_lowest-some.ensures.put ∙ ap (λ s. cond c.args.value (set.insert s.members c.args.id) (set.remove s.members c.args.id)) c.self.view_is

pub returns-else-some-word-clause-room : goal.returns-else-some-word-clause-room
returns-else-some-word-clause-room c = c.put_lowest-some.ensures.pages ∙ ap (λ s. s.room) c.self.view_is
