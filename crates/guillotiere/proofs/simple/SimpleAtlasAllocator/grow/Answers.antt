use Rattle.std.proofs.Common.{◌+◌, ◌<◌, length, min, vec_capacity, sym, subst, ◌∙◌, arith}
use Rattle.atlas_model.specs.Boxes.{Fits}
use Rattle.atlas_model.specs.Pixels.{options_of, sides_of}
use Rattle.guillotiere.specs.FreeBoxes.BoxShelves.{AreKept, box_shelf, free_item_boxes}
use Rattle.guillotiere.specs.FreeBoxes.FreeLists.{kept_beyond, state_of_items}
use Rattle.guillotiere.specs.SimpleStored.{MayAskMemory, simple_state_of}
use Rattle.atlas_model.specs.Simple.{IsGuarded}
use Rattle.atlas_model.specs.Simple.SimpleAtlasCall.{Grow}
use Rattle.atlas_model.proofs.SimpleLemmas.SimpleSteps.{grow-guarded}
use Rattle.guillotiere.proofs.SimpleLemmas.CutBoxes.{at_error}
use Rattle.guillotiere.proofs.SimpleLemmas.EntryCounts.{uses-old, uses-same, used-free}
use Rattle.guillotiere.proofs.SimpleLemmas.SimpleStarts.{grows-stored, grown-stored, equal-grows, same-sides}
use Rattle.guillotiere.proofs.simple.SimpleAtlasAllocator.grow.Goals as goal

pub returns-then-eq-clause-step : goal.returns-then-eq-clause-step
returns-then-eq-clause-step g c =
    let a = c.self.inside in
    let same = same-sides c.args.new_size a.size (sym c.eq.ensures ∙ c.if-eq.true) in
    rw (← c.self.view_is)
    (equal-grows (state_of_items (box_shelf a.boxes).entries (sides_of a.size) a.options) (sides_of c.args.new_size)
    c.self.invariant.state.simple same)

pub returns-then-eq-clause-entries : goal.returns-then-eq-clause-entries
returns-then-eq-clause-entries g c =
    let a = c.self.inside in
    rw (← c.self.view_is) (uses-same (options_of a.options) (box_shelf a.boxes) c.self.invariant.state.kept)

pub returns-in_err-add_rest-clause-entries : goal.returns-in_err-add_rest-clause-entries
returns-in_err-add_rest-clause-entries g c =
    let a = c.self.inside in
    let o = options_of a.options in
    let kept = subst (AreKept o) (sym c.in_err-add_rest.ensures.err) c.self.invariant.state.kept in
    rw (← c.self.view_is) (uses-old o (box_shelf a.boxes) (box_shelf c.add_rest.new.boxes) kept c.in_err-add_rest.ensures.entries)

pub returns-in_err-add_rest-clause-memory : goal.returns-in_err-add_rest-clause-memory
returns-in_err-add_rest-clause-memory g c =
    let a = c.self.inside in
    let used = used-free (options_of a.options) (box_shelf a.boxes) c.self.invariant.state.kept in
    let more : min (vec_capacity a.boxes.entries) 4261412864 < length (free_item_boxes (box_shelf a.boxes).entries) + length
    (kept_beyond a.options a.size c.args.new_size) =
    omega (arith, used, c.in_err-add_rest.ensures.needed) in
    at_error c.from_residual.result (subst (λ w. MayAskMemory w (Grow (sides_of c.args.new_size))) c.self.view_is more)

pub returns-clause-entries : goal.returns-clause-entries
returns-clause-entries g c =
    let a = c.self.inside in
    rw (← c.self.view_is) (uses-old (options_of a.options) (box_shelf a.boxes) (box_shelf c.add_rest.new.boxes)
    c.in_ok-add_rest.ensures.ok.kept c.add_rest.ensures.entries)

pub invariant_of-self-2 : goal.invariant_of-self-2
invariant_of-self-2 g c =
    let a = c.self.inside in
    let fits = subst (λ w. Fits (simple_state_of w).size (sides_of c.args.new_size)) (sym c.self.view_is) c.requires in
    record {
      state = grown-stored (box_shelf a.boxes) (box_shelf c.add_rest.new.boxes) a.size c.args.new_size a.options c.self.invariant.state fits
          c.in_ok-add_rest.ensures.ok.kept c.in_ok-add_rest.ensures.ok.boxes;
      room = omega (arith, c.self.invariant.room, c.in_ok-add_rest.ensures.capacity);
    }

pub returns-clause-step : goal.returns-clause-step
returns-clause-step g c = grind (arith, grows-stored)

pub returns-clause-guarded : goal.returns-clause-guarded
returns-clause-guarded g c held guarded =
    let a = c.self.inside in
    let fits = subst (λ w. Fits (simple_state_of w).size (sides_of c.args.new_size)) (sym c.self.view_is) c.requires in
    grow-guarded (state_of_items (box_shelf a.boxes).entries (sides_of a.size) a.options)
    (state_of_items (box_shelf c.add_rest.new.boxes).entries (sides_of c.args.new_size) a.options) (sides_of c.args.new_size) held
    c.self.invariant.state.simple fits (grows-stored (box_shelf a.boxes).entries (box_shelf c.add_rest.new.boxes).entries a.size
    c.args.new_size a.options c.in_ok-add_rest.ensures.ok.boxes) (subst (λ w. IsGuarded (simple_state_of w) held) (sym c.self.view_is)
    guarded)

pub returns-clause-simple : goal.returns-clause-simple
returns-clause-simple g c =
    let a = c.self.inside in
    let fits = subst (λ w. Fits (simple_state_of w).size (sides_of c.args.new_size)) (sym c.self.view_is) c.requires in
    (grown-stored (box_shelf a.boxes) (box_shelf c.add_rest.new.boxes) a.size c.args.new_size a.options c.self.invariant.state fits
    c.in_ok-add_rest.ensures.ok.kept c.in_ok-add_rest.ensures.ok.boxes).simple
