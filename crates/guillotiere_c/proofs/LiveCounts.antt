-- There are no more live ids than members, so what a rearranging lists has room where each member has.
use Rattle.std.proofs.Common.{◌≡◌, ◌≤◌, ◌+◌, ℕ, List, ◌++◌, length, map, arith, refl, ap, ◌∙◌, All}
use Rattle.std.proofs.lemmas.List.{length-append, length-map}
use Rattle.std.proofs.lemmas.List.Elements.{filter_map-append}
use Rattle.std.proofs.lemmas.List.Sorted.{length_permutation}
use Rattle.guillotiere.specs.Boxes.{Axis, Position, moved, other}
use Rattle.guillotiere.specs.Trees.{Members, Leaf, Grant, granted, grant_at, leaves, node_count}
use Rattle.guillotiere.specs.Trees.Members.{End, Free, Alloc, Seq}
use Rattle.guillotiere.specs.States.{State, live_in, used_in}
use Rattle.guillotiere.specs.Refits.{Rearrangement, Transfer}
use Rattle.guillotiere.specs.Laws.StepLaws.{IsRearrangingStep}
use Rattle.guillotiere.specs.Rearranging.{transfer_of, IsExactChange}
use Rattle.guillotiere.specs.Replies.{grant_of, IsExact}
use Rattle.guillotiere.specs.declared.Allocation.{Allocation}
use Rattle.guillotiere.specs.declared.Change.{Change}
use Rattle.guillotiere_c.specs.declared.plain.PlainChangeCount.{PlainChangeCount}
use Rattle.guillotiere_c.specs.Numbers.{allocation_in, change_in}
use Rattle.guillotiere_c.specs.Rearrangings.{Arrays, AreBothWritten}
use Rattle.guillotiere_c.specs.Writing.{IsWritten}

granted_count : (axis : Axis) (o : Position) (across : ℕ) (ms : Members)
    → length (granted (leaves axis o across ms)) ≤ node_count ms
granted_count axis o across End = omega arith
granted_count axis o across (Free e rest) = omega (arith, granted_count axis (moved axis o e) across rest)
granted_count axis o across (Alloc id e rest) = omega (arith, granted_count axis (moved axis o e) across rest)
granted_count axis o across (Seq e inner rest) =
    let xs : List Leaf = leaves (other axis) o e inner in
    let ys : List Leaf = leaves axis (moved axis o e) across rest in
    let parts : length (granted (xs ++ ys)) ≡ length (granted xs) + length (granted ys) =
    ap length (filter_map-append (λ (l : Leaf). grant_at l.owner l.box) xs ys) ∙ length-append (granted xs) (granted ys) in
    omega (arith, parts, granted_count (other axis) o e inner, granted_count axis (moved axis o e) across rest)

pub live_count : (s : State) → length (live_in s) ≤ used_in s
live_count s = granted_count s.tree.axis _ _ s.tree.members

-- What is listed is what was live.
pub listed_count :
    (old new : State) (list : Rearrangement) → IsRearrangingStep old list new
    → length list.changes + length list.failures ≤ used_in old
listed_count old new list step =
    let before : List Grant = map (λ (t : Transfer). t.old) list.changes in
    let all : length (before ++ list.failures) ≡ length (live_in old) = length_permutation _ _ step.before in
    omega (arith, all, length-append before list.failures, length-map list.changes (λ (t : Transfer). t.old), live_count old)

-- What was written of a rearranging is its list, where each array had room for all members.
pub listed :
    (old new : State) (moves : List Change) (lost : List Allocation) (before after : Arrays) (count : PlainChangeCount)
    → IsRearrangingStep old (record { changes = map transfer_of moves; failures = map grant_of lost }) new
    → used_in old ≤ length before.changes → used_in old ≤ length before.failures
    → All IsExactChange moves → All (λ (a : Allocation). IsExact a.rectangle) lost
    → IsWritten change_in moves before.changes after.changes
    → IsWritten allocation_in lost before.failures after.failures
    → count.changes ≡ length moves → count.failures ≡ length lost
    → AreBothWritten (record { changes = map transfer_of moves; failures = map grant_of lost }) before after count
listed old new moves lost before after count step changes_room failures_room moved_exact lost_exact changes failures changes_count
    failures_count =
    let all = listed_count old new _ step in
    let many = length-map moves transfer_of in
    let few = length-map lost grant_of in
    record {
      changes = moves;
      failures = lost;
      moved = refl;
      lost = refl;
      moved_exact = moved_exact;
      lost_exact = lost_exact;
      changes_room = omega (arith, all, many, few, changes_room);
      failures_room = omega (arith, all, many, few, failures_room);
      changes_written = changes;
      failures_written = failures;
      changes_count = changes_count;
      failures_count = failures_count;
    }
