use Rattle.std.proofs.Common.{rules, ◌≡◌, ap, subst, ◌∙◌, Some, inl, inr, refl}
use Rattle.entities.specs.Census.{population}
use Rattle.entities.specs.Population.{Population, mark, index_of}
use Rattle.entities.specs.Living.{newborn_alive}
use Rattle.saveload.specs.Told.IsTold.{start}
use Rattle.saveload.specs.Naming.{ids_in, naming, NamesNobody, put_id}
use Rattle.saveload.proofs.Ids.{mapped_given, names_nobody, when_ok}
use Rattle.saveload.proofs.marker.MarkerAllocator.retrieve_entity.Goals as goal

pub returns-clause-named : goal.returns-clause-named
returns-clause-named g c =
    let id = g.M.Marker.id_of c.args.marker in
    let given : c.id-id.result ≡ id = search rules in
    let unknown : NamesNobody (naming g.M.Marker.id_of g.Self.MarkerAllocator.mapping g.Self.MarkerAllocator.ids_past c.args.entities.now c.args.self.now c.args.storage.now) id =
    subst (NamesNobody (naming g.M.Marker.id_of g.Self.MarkerAllocator.mapping g.Self.MarkerAllocator.ids_past c.args.entities.now c.args.self.now c.args.storage.now)) given
    (names_nobody g.M.Marker.id_of g.Self.MarkerAllocator.mapping g.Self.MarkerAllocator.ids_past c.args.entities.now c.args.self.now c.args.storage.now c.id-id.result _ (search rules) (c.named_by.ensures.unknown (search rules))) in
    let mapped : g.Self.MarkerAllocator.mapping c.allocate.new.self ≡ put_id g.M.Identifier.PartialEq.eq (g.Self.MarkerAllocator.mapping c.args.self.now) id c.in_ok-made.made =
    mapped_given g.M.Marker.id_of g.M.Identifier.PartialEq.eq c.allocate.result _ _ id c.in_ok-made.made (search rules) (c.allocate.ensures.given id (ap Some given)) c.allocate.ensures.mapped in
    inr (record { unknown = unknown; may = c.in_ok-made.ensures.may; generation = c.in_ok-made.ensures.generation; people = c.in_ok-made.ensures.born; mapping = mapped; left = when_ok c.allocate.result _ (search rules) (c.allocate.ensures.passes id (ap Some given)); markers = search rules })

pub returns-then-is_err-clause-err : goal.returns-then-is_err-clause-err
returns-then-is_err-clause-err g c =
    let id = g.M.Marker.id_of c.args.marker in
    let given : c.id-id.result ≡ id = search rules in
    let born = c.in_ok-made.ensures.born in
    let alive = newborn_alive (population c.args.entities.now) _ c.in_ok-made.made c.in_ok-made.ensures.generation born in
    let unknown : NamesNobody (naming g.M.Marker.id_of g.Self.MarkerAllocator.mapping g.Self.MarkerAllocator.ids_past c.args.entities.now c.args.self.now c.args.storage.now) id =
    subst (NamesNobody (naming g.M.Marker.id_of g.Self.MarkerAllocator.mapping g.Self.MarkerAllocator.ids_past c.args.entities.now c.args.self.now c.args.storage.now)) given
    (names_nobody g.M.Marker.id_of g.Self.MarkerAllocator.mapping g.Self.MarkerAllocator.ids_past c.args.entities.now c.args.self.now c.args.storage.now c.id-id.result _ (search rules) (c.named_by.ensures.unknown (search rules))) in
    inr (record {
      unknown = unknown;
      entity = c.in_ok-made.made;
      may = c.in_ok-made.ensures.may;
      generation = c.in_ok-made.ensures.generation;
      people = c.given_up.ensures.marked alive ∙ ap (λ (p : Population). mark p (index_of c.in_ok-made.made)) born;
      given = inl (search rules, search rules);
      markers = refl {a = ids_in g.M.Marker.id_of c.args.storage.now};
    })

pub returns-then-is_err-2-clause-err : goal.returns-then-is_err-2-clause-err
returns-then-is_err-2-clause-err g c =
    let id = g.M.Marker.id_of c.args.marker in
    let given : c.id-id.result ≡ id = search rules in
    let born = c.in_ok-made.ensures.born in
    let alive = newborn_alive (population c.args.entities.now) _ c.in_ok-made.made c.in_ok-made.ensures.generation born in
    let mapped : g.Self.MarkerAllocator.mapping c.allocate.new.self ≡ put_id g.M.Identifier.PartialEq.eq (g.Self.MarkerAllocator.mapping c.args.self.now) id c.in_ok-made.made =
    mapped_given g.M.Marker.id_of g.M.Identifier.PartialEq.eq c.allocate.result _ _ id c.in_ok-made.made (search rules) (c.allocate.ensures.given id (ap Some given)) c.allocate.ensures.mapped in
    let unknown : NamesNobody (naming g.M.Marker.id_of g.Self.MarkerAllocator.mapping g.Self.MarkerAllocator.ids_past c.args.entities.now c.args.self.now c.args.storage.now) id =
    subst (NamesNobody (naming g.M.Marker.id_of g.Self.MarkerAllocator.mapping g.Self.MarkerAllocator.ids_past c.args.entities.now c.args.self.now c.args.storage.now)) given
    (names_nobody g.M.Marker.id_of g.Self.MarkerAllocator.mapping g.Self.MarkerAllocator.ids_past c.args.entities.now c.args.self.now c.args.storage.now c.id-id.result _ (search rules) (c.named_by.ensures.unknown (search rules))) in
    inr (record {
      unknown = unknown;
      entity = c.in_ok-made.made;
      may = c.in_ok-made.ensures.may;
      generation = c.in_ok-made.ensures.generation;
      people = c.given_up-then-is_err-2.ensures.marked alive ∙ ap (λ (p : Population). mark p (index_of c.in_ok-made.made)) born;
      given = inr (mapped, when_ok c.allocate.result _ (search rules) (c.allocate.ensures.passes id (ap Some given)));
      markers = search rules;
    })

pub returns-in_err-made-clause-told : goal.returns-in_err-made-clause-told
returns-in_err-made-clause-told g c = start

pub returns-then-is_err-clause-told : goal.returns-then-is_err-clause-told
returns-then-is_err-clause-told g c = start
