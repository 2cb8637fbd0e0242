use Rattle.std.proofs.Common.{◌≡◌, Some, option_map, ap, subst, ◌∙◌, arith}
use Rattle.std.proofs.Math.ListN.{drop_of_length-le}
use Rattle.guillotiere.specs.Pixels.{rectangle_of}
use Rattle.guillotiere.specs.Replies.{live_box}
use Rattle.guillotiere.specs.Stored.{state_of}
use Rattle.guillotiere_recording.specs.declared.names.LiveName.{LiveName as Entry}
use Rattle.guillotiere_recording.proofs.NameSteps.{visits-name, visits-none, asks-name, asks-more}
use Rattle.guillotiere_recording.proofs.walks.visit_names.Goals as goal

pub visit-requires : goal.visit-requires
visit-requires g c =
    let area = subst (λ (n : Entry). option_map rectangle_of (live_box (state_of c.args.atlas.now) n.id) ≡ Some c.index.result.now)
    c.entry-item.is c.index.ensures in
    asks-name g.F.FnMut (state_of c.args.atlas.now) c.args.names.now c.loop-entry.entry-index c.entry-item.result c.loop-entry-test.true
    c.loop-entry.visit c.deserialize.result c.index.result (c.deserialize.ensures ∙ ap (λ (n : Entry). n.name) c.entry-item.is) area
    c.requires.shown c.loop-entry.invariant.0

pub loop-entry-preserved : goal.loop-entry-preserved
loop-entry-preserved g c =
    let area = subst (λ (n : Entry). option_map rectangle_of (live_box (state_of c.args.atlas.now) n.id) ≡ Some c.index.result.now)
    c.entry-item.is c.index.ensures in
    let name = c.deserialize.ensures ∙ ap (λ (n : Entry). n.name) c.entry-item.is in (
      asks-more g.F.FnMut (state_of c.args.atlas.now) c.args.names.now c.loop-entry.entry-index c.entry-item.result c.loop-entry-test.true
          c.loop-entry.visit c.visit.new.self c.deserialize.result c.index.result name area c.visit.ensures c.loop-entry.invariant.0,
      λ last more.
          c.loop-entry.invariant.1 last
          (visits-name g.F.FnMut c.loop-entry.visit c.visit.new.self last (state_of c.args.atlas.now) c.args.names.now
          c.loop-entry.entry-index c.entry-item.result
          c.deserialize.result c.index.result c.loop-entry-test.true name area c.visit.ensures more),
    )

pub returns : goal.returns
returns g c =
    let none = drop_of_length-le c.args.names.now (omega (arith, c.loop-entry-test.false)) in (
      c.loop-entry.visit,
      c.loop-entry.invariant.1 c.loop-entry.visit
          (visits-none g.F.FnMut c.loop-entry.visit (state_of c.args.atlas.now) c.args.names.now c.loop-entry.entry-index none),
    )
