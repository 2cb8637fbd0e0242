use Rattle.std.proofs.Common.{map, arith}
use Rattle.atlas_search.specs.Lookups.{HasFound}
use Rattle.atlas_model.specs.Pixels.{options_of, sides_of}
use Rattle.atlas_search.proofs.SearchLemmas.ItemPicks.{area-read, found-free, found-read, free-inside, none-found, none-from}
use Rattle.atlas_search.proofs.SearchLemmas.ItemPicks.{no_room-of_items, pick-of_items, seen-nothing}
use Rattle.atlas_search.proofs.SearchLemmas.Windows.{before-of, left-next, none-left}
use Rattle.atlas_search.proofs.search.pick_from.Goals as goal

pub bounds-entries-at : goal.bounds-entries-at
bounds-entries-at g c =
    let o = options_of c.args.options.now in
    let es = map g.E.Entry.item c.args.entries.now in
    let r = sides_of c.args.begun.size in
    let q = c.requires in
    let end = c.end_after-end in
    let found = c.in-Some.ensures o end.result r (omega (arith, q.row, end.ensures.after)) (omega (arith, q.column, end.ensures.after))
    (before-of o c.args.table.now.heads es c.args.own r end.result c.below-in_row.result c.below-in_column.result c.args.least
    c.args.columns c.args.rows q.search c.below-in_row.ensures c.below-in_column.ensures) q.seen in
    free-inside g.E.Entry.item c.args.entries.now c.in-Some.at.number (found-free o es r end.result c.in-Some.at found)

pub offset_bounds-entries-at : goal.offset_bounds-entries-at
offset_bounds-entries-at g c = omega (arith, bounds-entries-at g c)

pub returns-in-Some-clause-picked : goal.returns-in-Some-clause-picked
returns-in-Some-clause-picked g c =
    let o = options_of c.args.options.now in
    let es = map g.E.Entry.item c.args.entries.now in
    let r = sides_of c.args.begun.size in
    let q = c.requires in
    let end = c.end_after-end in
    let found = c.in-Some.ensures o end.result r (omega (arith, q.row, end.ensures.after)) (omega (arith, q.column, end.ensures.after))
    (before-of o c.args.table.now.heads es c.args.own r end.result c.below-in_row.result c.below-in_column.result c.args.least
    c.args.columns c.args.rows q.search c.below-in_row.ensures c.below-in_column.ensures) q.seen in
    let area = area-read g.E.Entry.item c.args.entries.now c.in-Some.at.number c.index-entries-at.result c.rectangle-rectangle.result
    (found-free o es r end.result c.in-Some.at found) c.index-entries-at.is c.rectangle-rectangle.ensures in
    pick-of_items o es r c.args.table.now.heads q.search.listed c.args.least end.result _ end.ensures.class q.search.from
    (found-read o es r end.result c.in-Some.at found c.rectangle-rectangle.result area)

pub returns-in-Some-clause-standing : goal.returns-in-Some-clause-standing
returns-in-Some-clause-standing g c =
    let o = options_of c.args.options.now in
    let es = map g.E.Entry.item c.args.entries.now in
    let r = sides_of c.args.begun.size in
    let q = c.requires in
    let end = c.end_after-end in
    let found = c.in-Some.ensures o end.result r (omega (arith, q.row, end.ensures.after)) (omega (arith, q.column, end.ensures.after))
    (before-of o c.args.table.now.heads es c.args.own r end.result c.below-in_row.result c.below-in_column.result c.args.least
    c.args.columns c.args.rows q.search c.below-in_row.ensures c.below-in_column.ensures) q.seen in
    let area = area-read g.E.Entry.item c.args.entries.now c.in-Some.at.number c.index-entries-at.result c.rectangle-rectangle.result
    (found-free o es r end.result c.in-Some.at found) c.index-entries-at.is c.rectangle-rectangle.ensures in
    (found-read o es r end.result c.in-Some.at found c.rectangle-rectangle.result area).standing

pub loop-at-init : goal.loop-at-init
loop-at-init g c =
    let q = c.requires in
    let end = c.end_after-end in (
      c.args.least,
      q.search,
      end.ensures.after,
      end.ensures.class,
      c.below-in_row.ensures,
      c.below-in_column.ensures,
      omega (arith, q.row, end.ensures.after),
      omega (arith, q.column, end.ensures.after),
      end.ensures.most,
      q.seen,
    )

pub search_before-is_last-requires-clause-search : goal.search_before-is_last-requires-clause-search
search_before-is_last-requires-clause-search g c =
    let o = options_of c.args.options.now in
    let es = map g.E.Entry.item c.args.entries.now in
    let r = sides_of c.args.begun.size in
    let l = c.loop-at in
    let i = l.invariant in
    (r, before-of o c.args.table.now.heads es c.args.own r l.end l.in_row l.in_column i.0 l.columns l.rows i.1 i.4 i.5)

pub bounds-entries-at-in-Some-found : goal.bounds-entries-at-in-Some-found
bounds-entries-at-in-Some-found g c =
    let o = options_of c.args.options.now in
    let es = map g.E.Entry.item c.args.entries.now in
    let r = sides_of c.args.begun.size in
    let l = c.loop-at in
    let i = l.invariant in
    let search = before-of o c.args.table.now.heads es c.args.own r l.end l.in_row l.in_column i.0 l.columns l.rows i.1 i.4 i.5 in
    let searched = c.search_before-is_last.ensures.best r search i.9 in
    let is = c.in-Some-found.ensures.some in
    let best = c.search_before-is_last.new.best in
    let found : HasFound o es l.end r c.in-Some-found.at = record { search = best; searched = searched; is_at = is.0; some = is.1 } in
    free-inside g.E.Entry.item c.args.entries.now c.in-Some-found.at.number (found-free o es r l.end c.in-Some-found.at found)

pub offset_bounds-entries-at-in-Some-found : goal.offset_bounds-entries-at-in-Some-found
offset_bounds-entries-at-in-Some-found g c = omega (arith, bounds-entries-at-in-Some-found g c)

pub returns-in-Some-found-clause-picked : goal.returns-in-Some-found-clause-picked
returns-in-Some-found-clause-picked g c =
    let o = options_of c.args.options.now in
    let es = map g.E.Entry.item c.args.entries.now in
    let r = sides_of c.args.begun.size in
    let l = c.loop-at in
    let i = l.invariant in
    let search = before-of o c.args.table.now.heads es c.args.own r l.end l.in_row l.in_column i.0 l.columns l.rows i.1 i.4 i.5 in
    let searched = c.search_before-is_last.ensures.best r search i.9 in
    let is = c.in-Some-found.ensures.some in
    let best = c.search_before-is_last.new.best in
    let found : HasFound o es l.end r c.in-Some-found.at = record { search = best; searched = searched; is_at = is.0; some = is.1 } in
    let a = c.rectangle-rectangle-in-Some-found in
    let area = area-read g.E.Entry.item c.args.entries.now c.in-Some-found.at.number c.index-entries-at-in-Some-found.result a.result
    (found-free o es r l.end c.in-Some-found.at found) c.index-entries-at-in-Some-found.is a.ensures in
    pick-of_items o es r c.args.table.now.heads i.1.listed i.0 l.end _ i.3 i.1.from
    (found-read o es r l.end c.in-Some-found.at found a.result area)

pub returns-in-Some-found-clause-standing : goal.returns-in-Some-found-clause-standing
returns-in-Some-found-clause-standing g c =
    let o = options_of c.args.options.now in
    let es = map g.E.Entry.item c.args.entries.now in
    let r = sides_of c.args.begun.size in
    let l = c.loop-at in
    let i = l.invariant in
    let search = before-of o c.args.table.now.heads es c.args.own r l.end l.in_row l.in_column i.0 l.columns l.rows i.1 i.4 i.5 in
    let searched = c.search_before-is_last.ensures.best r search i.9 in
    let is = c.in-Some-found.ensures.some in
    let best = c.search_before-is_last.new.best in
    let found : HasFound o es l.end r c.in-Some-found.at = record { search = best; searched = searched; is_at = is.0; some = is.1 } in
    let a = c.rectangle-rectangle-in-Some-found in
    let area = area-read g.E.Entry.item c.args.entries.now c.in-Some-found.at.number c.index-entries-at-in-Some-found.result a.result
    (found-free o es r l.end c.in-Some-found.at found) c.index-entries-at-in-Some-found.is a.ensures in
    (found-read o es r l.end c.in-Some-found.at found a.result area).standing

pub returns-then-end-ge-BANDS-clause-none : goal.returns-then-end-ge-BANDS-clause-none
returns-then-end-ge-BANDS-clause-none g c _ =
    let o = options_of c.args.options.now in
    let es = map g.E.Entry.item c.args.entries.now in
    let r = sides_of c.args.begun.size in
    let l = c.loop-at in
    let i = l.invariant in
    let heads = c.args.table.now.heads in
    let own = c.args.own in
    let search = before-of o heads es own r l.end l.in_row l.in_column i.0 l.columns l.rows i.1 i.4 i.5 in
    let best = c.search_before-is_last.new.best in
    let searched = c.search_before-is_last.ensures.best r search i.9 in
    let none = c.found.ensures.none c.in_default-found.is in
    no_room-of_items o es r (none-from o es r l.end c.if-end-ge-BANDS.true (none-found o es r l.end best searched none))

pub returns-then-is_empty-clause-none : goal.returns-then-is_empty-clause-none
returns-then-is_empty-clause-none g c _ =
    let o = options_of c.args.options.now in
    let es = map g.E.Entry.item c.args.entries.now in
    let r = sides_of c.args.begun.size in
    let l = c.loop-at in
    let i = l.invariant in
    let heads = c.args.table.now.heads in
    let own = c.args.own in
    let search = before-of o heads es own r l.end l.in_row l.in_column i.0 l.columns l.rows i.1 i.4 i.5 in
    let best = c.search_before-is_last.new.best in
    let searched = c.search_before-is_last.ensures.best r search i.9 in
    let none = c.found.ensures.none c.in_default-found.is in
    let later_columns = c.from-columns in
    let later_rows = c.from-rows in
    let left = left-next heads own i.0 l.end l.end l.columns l.rows later_columns.result later_rows.result i.6 i.7 i.2 (omega arith)
    later_columns.ensures later_rows.ensures i.1.left in
    no_room-of_items o es r (none-left o heads es r i.1.listed own i.1.row i.1.column l.end later_columns.result later_rows.result
    c.or.result left (c.search_before-is_last.ensures.last c.if-is_last.true) c.or.ensures (c.is_empty.ensures.empty c.if-is_empty.true)
    (none-found o es r l.end best searched none))

pub loop-at-preserved : goal.loop-at-preserved
loop-at-preserved g c =
    let o = options_of c.args.options.now in
    let es = map g.E.Entry.item c.args.entries.now in
    let r = sides_of c.args.begun.size in
    let l = c.loop-at in
    let i = l.invariant in
    let heads = c.args.table.now.heads in
    let own = c.args.own in
    let search = before-of o heads es own r l.end l.in_row l.in_column i.0 l.columns l.rows i.1 i.4 i.5 in
    let best = c.search_before-is_last.new.best in
    let searched = c.search_before-is_last.ensures.best r search i.9 in
    let none = c.found.ensures.none c.in_default-found.is in
    let later_columns = c.from-columns in
    let later_rows = c.from-rows in
    let next = c.end_after-end-in-loop-at in (
      l.end,
      record {
        listed = i.1.listed;
        row = i.1.row;
        column = i.1.column;
        from = none-found o es r l.end best searched none;
        left = left-next heads own i.0 l.end l.end l.columns l.rows later_columns.result later_rows.result i.6 i.7 i.2 (omega arith)
            later_columns.ensures later_rows.ensures i.1.left;
      },
      next.ensures.after,
      next.ensures.class,
      c.below-in_row-in-loop-at.ensures,
      c.below-in_column-in-loop-at.ensures,
      omega (arith, i.6, next.ensures.after),
      omega (arith, i.7, next.ensures.after),
      next.ensures.most,
      seen-nothing o es r l.end best searched none,
    )
