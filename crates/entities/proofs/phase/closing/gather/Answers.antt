use Rattle.std.proofs.Common.{◌∷◌, [], ◌++◌, sym, ap, ◌∙◌, subst, List}
use Rattle.entities.specs.declared.phase.pass.Pass.{Pass}
use Rattle.entities.specs.Phase.Trace.{Each}
use Rattle.entities.specs.Phase.Board.{IsHome, record_of}
use Rattle.entities.specs.Phase.Rule.{Seats}
use Rattle.entities.specs.Phase.Plan.{phase_of}
use Rattle.entities.proofs.Phases.Keeps.{joins}
use Rattle.entities.proofs.Phases.Ends.{each_back, joined_one}
use Rattle.entities.proofs.phase.closing.gather.Goals as goal

pub join_seat-requires : goal.join_seat-requires
join_seat-requires c = let key = c.args.words.now.shared.key in let z = c.args.words.now.shared.table_id in let pass = c.in-Some.pass in
    let home = each_back (IsHome z) c.pop.new.self.items (pass ∷ []) (subst (Each (IsHome z)) c.in-Some.ensures.items c.loop-pass.invariant.home) in
    (c.loop-pass.invariant.seat ∙ c.requires.keeper.0, home.1.0.0, home.1.0.1, c.requires.keeper.1, joins (phase_of key) key.width c.loop-pass.keeper.id c.loop-pass.keeper.me.0 pass.record.id pass.record.me.0)

pub loop-pass-preserved : goal.loop-pass-preserved
loop-pass-preserved c = let i = c.loop-pass.invariant in let z = c.args.words.now.shared.table_id in let pass = c.in-Some.pass in let s = c.join_seat.ensures in
    let home = each_back (IsHome z) c.pop.new.self.items (pass ∷ []) (subst (Each (IsHome z)) c.in-Some.ensures.items i.home) in
    let rest = joined_one c.pop.new.self.items pass c.loop-pass.keeper.me.0 (record_of c.args.passes.items) (ap (λ (xs : List Pass). record_of xs ++ c.loop-pass.keeper.me.0) (sym c.in-Some.ensures.items) ∙ i.rest) in record {
      seat = s.0 ∙ i.seat;
      bare = ap (λ (m : Seats). m.1) s.2 ∙ i.bare;
      rest = ap (λ (m : Seats). record_of c.pop.new.self.items ++ m.0) s.2 ∙ rest;
      home = home.0;
    }
