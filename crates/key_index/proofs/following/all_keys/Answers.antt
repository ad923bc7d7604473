use Rattle.std.proofs.Common.{rules, ◌∙◌, ap, cond, eqb}
use Rattle.hibits.specs.Sets.{has_part}
use Rattle.key_index.specs.Indexed.{key_in}
use Rattle.key_index.specs.Keys.{key_at}
use Rattle.key_index.proofs.Walking.{walk_on, no_key}
use Rattle.key_index.proofs.following.all_keys.Goals as goal

pub loop-id-preserved : goal.loop-id-preserved
loop-id-preserved g c =
    let key = g.K.KeyOf.key c.args.key.now in
    let s = c.args.masked.now in
    let p = has_part c.loop-id.walk.mask.now.members 0 in
    let walked =
    walk_on (key_in key s) p (no_key key s p c.loop-id.invariant.member) c.loop-id.walk.position c.in-Some.id (key_at c.loop-id.lists) (key_at c.set.new.self)
    c.in-Some.ensures.next c.loop-id.invariant.walked
    (λ i. c.in_ok-set.ensures.ok i ∙ ap (λ k. cond (eqb i c.in-Some.id) k (key_at c.loop-id.lists i)) c.key_now-now.ensures) in
    record { member = search rules; walked = rw c.in-Some.ensures.after walked }
