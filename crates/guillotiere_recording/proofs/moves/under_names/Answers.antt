use Rattle.std.proofs.Common.{ℕ, IsPermutation, ◌∙◌, ap, subst}
use Rattle.guillotiere.specs.declared.Change.{Change}
use Rattle.guillotiere_recording.specs.declared.names.LiveName.{LiveName as Entry}
use Rattle.guillotiere_recording.specs.Moves.{change_under, entry_under}
use Rattle.guillotiere_recording.proofs.PermutedEntries.{read_back, once_permuted, changes_entered, failures_entered, changes_alike}
use Rattle.guillotiere_recording.proofs.PermutedEntries.{failures_alike}
use Rattle.guillotiere_recording.proofs.moves.under_names.Goals as goal

abbrev changed : ℕ → Change → Change
changed n c = record { old = record { id = n; rectangle = c.old.rectangle }; new = record { id = n; rectangle = c.new.rectangle } }

abbrev entered : ℕ → Change → Entry
entered n c = record { name = n; id = c.new.id }

pub name_changes-requires-clause-entered : goal.name_changes-requires-clause-entered
name_changes-requires-clause-entered g c =
    let same = read_back c.args.names.now c.in_ok-by_id.by_id.items c.sort_by_id.new.entries.items c.deref.result.now
    c.in_ok-by_id.ensures.items c.sort_by_id.ensures.same c.deref.ensures.value in
    changes_entered c.args.names.now c.deref.result.now same c.args.answer.now.changes.items c.deref-2.result.now c.deref-2.ensures.value
    c.requires.changed

pub name_changes-requires-clause-once : goal.name_changes-requires-clause-once
name_changes-requires-clause-once g c =
    let same = read_back c.args.names.now c.in_ok-by_id.by_id.items c.sort_by_id.new.entries.items c.deref.result.now
    c.in_ok-by_id.ensures.items c.sort_by_id.ensures.same c.deref.ensures.value in
    once_permuted c.args.names.now c.deref.result.now same c.requires.once

pub name_failures-requires-clause-entered : goal.name_failures-requires-clause-entered
name_failures-requires-clause-entered g c =
    let same = read_back c.args.names.now c.in_ok-by_id.by_id.items c.sort_by_id.new.entries.items c.deref-3.result.now
    c.in_ok-by_id.ensures.items c.sort_by_id.ensures.same c.deref-3.ensures.value in
    failures_entered c.args.names.now c.deref-3.result.now same c.args.answer.now.failures.items c.deref-4.result.now
    c.deref-4.ensures.value c.requires.failed

pub name_failures-requires-clause-once : goal.name_failures-requires-clause-once
name_failures-requires-clause-once g c =
    let same = read_back c.args.names.now c.in_ok-by_id.by_id.items c.sort_by_id.new.entries.items c.deref-3.result.now
    c.in_ok-by_id.ensures.items c.sort_by_id.ensures.same c.deref-3.ensures.value in
    once_permuted c.args.names.now c.deref-3.result.now same c.requires.once

pub name_entries-requires-clause-entered : goal.name_entries-requires-clause-entered
name_entries-requires-clause-entered g c =
    let same = read_back c.args.names.now c.in_ok-by_id.by_id.items c.sort_by_id.new.entries.items c.deref-5.result.now
    c.in_ok-by_id.ensures.items c.sort_by_id.ensures.same c.deref-5.ensures.value in
    changes_entered c.args.names.now c.deref-5.result.now same c.args.answer.now.changes.items c.deref-6.result.now c.deref-6.ensures.value
    c.requires.changed

pub name_entries-requires-clause-once : goal.name_entries-requires-clause-once
name_entries-requires-clause-once g c =
    let same = read_back c.args.names.now c.in_ok-by_id.by_id.items c.sort_by_id.new.entries.items c.deref-5.result.now
    c.in_ok-by_id.ensures.items c.sort_by_id.ensures.same c.deref-5.ensures.value in
    once_permuted c.args.names.now c.deref-5.result.now same c.requires.once

pub returns-clause-moved : goal.returns-clause-moved
returns-clause-moved g c =
    let first = read_back c.args.names.now c.in_ok-by_id.by_id.items c.sort_by_id.new.entries.items c.deref.result.now
    c.in_ok-by_id.ensures.items c.sort_by_id.ensures.same c.deref.ensures.value in
    let second = read_back c.args.names.now c.in_ok-by_id.by_id.items c.sort_by_id.new.entries.items c.deref-3.result.now
    c.in_ok-by_id.ensures.items c.sort_by_id.ensures.same c.deref-3.ensures.value in
    let third = read_back c.args.names.now c.in_ok-by_id.by_id.items c.sort_by_id.new.entries.items c.deref-5.result.now
    c.in_ok-by_id.ensures.items c.sort_by_id.ensures.same c.deref-5.ensures.value in
    record {
      changes = c.in_ok-changes.ensures.list
          ∙ changes_alike c.args.names.now c.deref.result.now first change_under (λ f h x is. ap (λ n. changed n x) is) c.requires.once
          c.args.answer.now.changes.items c.deref-2.result.now c.deref-2.ensures.value c.requires.changed;
      failures = c.in_ok-failures.ensures.list
          ∙ failures_alike c.args.names.now c.deref-3.result.now second c.requires.once
          c.args.answer.now.failures.items c.deref-4.result.now c.deref-4.ensures.value c.requires.failed;
      entries = subst (λ es. IsPermutation es c.sort_by_name.new.entries.items)
          (c.in_ok-entries.ensures.list
          ∙ changes_alike c.args.names.now c.deref-5.result.now third entry_under (λ f h x is. ap (λ n. entered n x) is) c.requires.once
          c.args.answer.now.changes.items c.deref-6.result.now c.deref-6.ensures.value c.requires.changed)
          c.sort_by_name.ensures.same;
      sorted = c.sort_by_name.ensures.sorted;
    }
