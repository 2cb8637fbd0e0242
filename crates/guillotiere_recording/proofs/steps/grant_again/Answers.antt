use Rattle.std.proofs.Common.{◌≡◌, Option, Some, Ok, IfSome, nat_cmp, ap, sym, subst, ◌∙◌, true, false, rules}
use Rattle.std.specs.BTreeMap.{get, Updates}
use Rattle.std.specs.Option.{is_some}
use Rattle.guillotiere.specs.declared.Allocation.{Allocation}
use Rattle.guillotiere.specs.Pixels.{sides_of}
use Rattle.guillotiere.specs.Replies.{allocate_reply, IsExact}
use Rattle.guillotiere.specs.Steps as atlas
use Rattle.guillotiere.specs.Steps.{Step}
use Rattle.guillotiere.specs.Stored.{state_of}
use Rattle.guillotiere_recording.proofs.ReplaySteps.{live_where_found, granted_on}
use Rattle.guillotiere_recording.proofs.steps.grant_again.Goals as goal

-- src/steps.rt:83:9
pub returns-then-contains_key-clause-fault : goal.returns-then-contains_key-clause-fault
returns-then-contains_key-clause-fault g c = λ s h.
    let name = c.serialize-name.ensures in
    let has : is_some (get nat_cmp c.args.names.now c.args.recorded.now.id) ≡ true =
    ap (λ n. is_some (get nat_cmp c.args.names.now n)) (sym name) ∙ sym c.contains_key.ensures ∙ c.if-contains_key.true in
    live_where_found c.args.atlas.now c.args.names.now s c.args.recorded.now.id h has

-- src/steps.rt:72:1
pub returns-in_ok-insert-in-Some-clause-ok : goal.returns-in_ok-insert-in-Some-clause-ok
returns-in_ok-insert-in-Some-clause-ok g c = λ s h.
    let size = c.args.size in
    let name = c.serialize-name.ensures in
    let missing : is_some (get nat_cmp c.args.names.now c.args.recorded.now.id) ≡ false =
    ap (λ n. is_some (get nat_cmp c.args.names.now n)) (sym name) ∙ sym c.contains_key.ensures ∙ c.if-contains_key.false in
    let step = subst (λ o. Step (state_of c.args.atlas.now) (atlas.Allocate (sides_of size)) (allocate_reply (Ok o))
    (state_of c.ask.new.atlas))
    c.in-Some.is c.in_ok-granted.ensures.step in
    let exact = subst (λ (o : Option Allocation). IfSome o (λ a. IsExact a.rectangle)) c.in-Some.is c.in_ok-granted.ensures.exact in
    let updates = subst (λ n. Updates nat_cmp c.args.names.now c.insert.new.self n (Some c.in-Some.granted.id)) name
    c.in_ok-insert-in-Some.ensures.updates in
    granted_on c.args.atlas.now c.ask.new.atlas c.args.names.now c.insert.new.self size c.args.recorded.now c.in-Some.granted missing
    step exact (search rules) updates s h
