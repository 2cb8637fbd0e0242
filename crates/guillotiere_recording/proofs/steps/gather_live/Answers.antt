use Rattle.std.proofs.Common.{All, List, ◌∷◌, map, ◌++◌, append_assoc, ap, sym, subst, ◌∙◌}
use Rattle.std.proofs.lemmas.List.Elements.{All-head, All-tail}
use Rattle.guillotiere.specs.declared.Allocation.{Allocation}
use Rattle.guillotiere.specs.Stored.{state_of}
use Rattle.guillotiere_recording.specs.Standing.{shown_entry}
use Rattle.guillotiere_recording.proofs.ReplayEnds.{Entries, IsFound, shown_by}
use Rattle.guillotiere_recording.proofs.steps.gather_live.Goals as goal

pub loop-name-init : goal.loop-name-init
loop-name-init g c =
    let gives = c.into_iter-name-iterator.ensures.into_iter_gives in
    let shows = λ (es : Entries). map (shown_entry (state_of c.args.atlas.now)) es in (
      ap (λ (xs : List Allocation). xs ++ shows c.into_iter-name-iterator.result) c.new-live.ensures.items ∙ ap shows gives.0,
      subst (λ (es : Entries). All (IsFound c.args.names.now) es) (sym gives.0) gives.6,
    )

pub index-requires : goal.index-requires
index-requires g c =
    let all = subst (λ (es : Entries). All (IsFound c.args.names.now) es) c.in-Some.ensures.steps c.loop-name.invariant.1 in
    c.requires c.in-Some.name.now c.in-Some.id.now
    (All-head (IsFound c.args.names.now) (c.in-Some.name.now, c.in-Some.id.now) c.next.new.self all)

pub loop-name-preserved : goal.loop-name-preserved
loop-name-preserved g c =
    let s = state_of c.args.atlas.now in
    let shows = λ (es : Entries). map (shown_entry s) es in
    let all = subst (λ (es : Entries). All (IsFound c.args.names.now) es) c.in-Some.ensures.steps c.loop-name.invariant.1 in
    let one = shown_by s c.deserialize.result c.in-Some.name.now c.in-Some.id.now c.index.result.now c.deserialize.ensures c.index.ensures
    in (
      ap (λ (xs : List Allocation). xs ++ shows c.next.new.self) c.in_ok-push.ensures.items
          ∙ append_assoc c.loop-name.live.items _ (shows c.next.new.self)
          ∙ ap (λ (a : Allocation). c.loop-name.live.items ++ (a ∷ shows c.next.new.self)) one
          ∙ sym (ap (λ (es : Entries). c.loop-name.live.items ++ shows es) c.in-Some.ensures.steps)
          ∙ c.loop-name.invariant.0,
      All-tail (IsFound c.args.names.now) (c.in-Some.name.now, c.in-Some.id.now) c.next.new.self all,
    )
