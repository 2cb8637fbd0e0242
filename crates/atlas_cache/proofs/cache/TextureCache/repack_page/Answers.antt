use Rattle.std.proofs.Common.{◌≡◌, ◌∙◌, ◌+◌, ◌-◌, ◌++◌, [], min, length, refl, arith, rules, ap, sym, Err}
use Rattle.std.proofs.lemmas.List.{length-map}
use Rattle.atlas_entries.specs.declared.entries.Entry.{Entry}
use Rattle.atlas_cache.specs.Caches.{entries_of}
use Rattle.atlas_entries.specs.Entries.{no_page}
use Rattle.atlas_cache.specs.Relocating.{become, keys_of, renewed_by}
use Rattle.atlas_cache.proofs.BlankLemmas.{each-where}
use Rattle.atlas_cache.proofs.HoldingLemmas.{IsLiveOn}
use Rattle.atlas_cache.proofs.GatherLemmas.{entries-exact, entries-name}
use Rattle.atlas_cache.proofs.IdOrderLemmas.{become-same, in-order, told-same}
use Rattle.atlas_cache.proofs.KeepingLemmas.{keys-stay}
use Rattle.atlas_cache.proofs.KeyLemmas.{own_keys}
use Rattle.atlas_cache.proofs.ListLemmas.{length-listed}
use Rattle.atlas_cache.proofs.ReadyLemmas.{error_is}
use Rattle.atlas_cache.proofs.RepackLemmas.{old_once, repacked_held, repacked_falls, repacked_bordered, renewed_same, shorter}
use Rattle.atlas_cache.proofs.ToldRepacks.{repacks_tell}
use Rattle.atlas_cache.proofs.TrimLemmas.{none-told}
use Rattle.atlas_cache.proofs.cache.TextureCache.repack_page.Goals as goal

pub repack-requires-clause-exact : goal.repack-requires-clause-exact
repack-requires-clause-exact g c =
    rw c.in_ok-held.ensures.held (entries-exact c.args.page c.self.inside.rooms.options.padding
    (entries_of c.self.inside.entries.entries) (λ q. omega (arith, q, c.if-page-len.false, c.len.ensures.numbered))
    c.self.invariant.bordered)

pub settle_all-requires-clause-is : goal.settle_all-requires-clause-is
settle_all-requires-clause-is g c =
    let es = entries_of c.self.inside.entries.entries in
    let off : c.args.page ≡ no_page → ⊥ = (λ q. omega (arith, q, c.if-page-len.false, c.len.ensures.numbered)) in
    let does = rw c.in-Some.is at c.in_ok-list.ensures.repacks
    (rw c.in_ok-held.ensures.held (entries-name c.args.page c.self.inside.rooms.pages es off c.self.invariant.held)) in
    let cs = c.in-Some.list.changes.items in
    let permuted = c.sort_by_id.ensures.permuted in
    let once = old_once c.self.inside.rooms.pages c.repack.new.self.pages c.args.page c.in-Some.list does in
    rw (c.options-options.ensures.options, c.repack.ensures.options, c.deref.ensures.value, become-same cs _ permuted once c.args.page es)
    (repacked_bordered c.self.inside.rooms.pages c.repack.new.self.pages c.args.page c.in-Some.list does
    c.self.inside.rooms.options.padding es (each-where (IsLiveOn c.self.inside.rooms.pages) es c.self.invariant.held.live)
    c.self.invariant.bordered)

pub settle_all-requires-clause-moves : goal.settle_all-requires-clause-moves
settle_all-requires-clause-moves g c =
    let es = entries_of c.self.inside.entries.entries in
    let off : c.args.page ≡ no_page → ⊥ = (λ q. omega (arith, q, c.if-page-len.false, c.len.ensures.numbered)) in
    let does = rw c.in-Some.is at c.in_ok-list.ensures.repacks
    (rw c.in_ok-held.ensures.held (entries-name c.args.page c.self.inside.rooms.pages es off c.self.invariant.held)) in
    let permuted = c.sort_by_id.ensures.permuted in
    let once = old_once c.self.inside.rooms.pages c.repack.new.self.pages c.args.page c.in-Some.list does in
    rw c.deref.ensures.value (in-order c.in-Some.list.changes.items _ permuted once c.sort_by_id.ensures.rising)

pub overflow_sub-gone : goal.overflow_sub-gone
overflow_sub-gone g c = omega (
  arith,
  c.len-2.ensures.len,
  c.len-before.ensures,
  shorter c.self.inside.entries.entries c.settle_all.new.entries.entries (become c.args.page (renewed_by c.deref.result.now))
      c.settle_all.ensures.entries,
)

pub invariant_of-self-2 : goal.invariant_of-self-2
invariant_of-self-2 g c =
    let it = c.self.inside in
    let es = entries_of c.self.inside.entries.entries in
    let off : c.args.page ≡ no_page → ⊥ = (λ q. omega (arith, q, c.if-page-len.false, c.len.ensures.numbered)) in
    let does = rw c.in-Some.is at c.in_ok-list.ensures.repacks
    (rw c.in_ok-held.ensures.held (entries-name c.args.page c.self.inside.rooms.pages es off c.self.invariant.held)) in
    let permuted = c.sort_by_id.ensures.permuted in
    let once = old_once it.rooms.pages c.repack.new.self.pages c.args.page c.in-Some.list does in
    let entries = (rw c.deref.ensures.value at c.settle_all.ensures.entries)
    ∙ become-same c.in-Some.list.changes.items _ permuted once c.args.page es in
    record {
      held = rw entries
          (repacked_held it.rooms.pages c.repack.new.self.pages c.args.page c.in-Some.list does off es c.self.invariant.held);
      bordered = rw (entries, c.repack.ensures.options)
          (repacked_bordered it.rooms.pages c.repack.new.self.pages c.args.page c.in-Some.list does it.rooms.options.padding
          es (each-where (IsLiveOn it.rooms.pages) es c.self.invariant.held.live)
          c.self.invariant.bordered);
      frames = rw entries
          (repacked_falls it.rooms.pages c.repack.new.self.pages c.args.page c.in-Some.list does it.frame (entries_of it.entries.entries)
          c.self.invariant.frames);
    }

pub returns-clause-repacks : goal.returns-clause-repacks
returns-clause-repacks g c = λ _.
    let it = c.self.inside in
    let cs = c.in-Some.list.changes.items in
    let es = entries_of c.self.inside.entries.entries in
    let off : c.args.page ≡ no_page → ⊥ = (λ q. omega (arith, q, c.if-page-len.false, c.len.ensures.numbered)) in
    let does = rw c.in-Some.is at c.in_ok-list.ensures.repacks
    (rw c.in_ok-held.ensures.held (entries-name c.args.page c.self.inside.rooms.pages es off c.self.invariant.held)) in
    let permuted = c.sort_by_id.ensures.permuted in
    let once = old_once it.rooms.pages c.repack.new.self.pages c.args.page c.in-Some.list does in
    let told = rw (c.deref.ensures.value, c.options-options.ensures.options, c.repack.ensures.options, c.reserve.ensures.items)
    at c.settle_all.ensures.told in
    let evictions : c.saturating_add-self-inside.result
    ≡ min (it.counts.evictions + (length (entries_of it.entries.entries) - length (entries_of c.settle_all.new.entries.entries)))
    18446744073709551615 =
    omega (
      arith,
      c.saturating_add-self-inside.ensures,
      c.len-2.ensures.len,
      c.len-before.ensures.len,
      length-listed it.entries.entries,
      length-listed c.settle_all.new.entries.entries,
    ) in
    rw (← c.self.view_is) (record {
      renewed = renewed_by cs;
      same = renewed_same cs;
      moved = cs;
      given_up = c.in-Some.list.failures.items;
      moves = λ e. refl;
      placed = rw c.in_ok-held.ensures.held at (rw c.in-Some.is at c.in_ok-list.ensures.placed);
      entries = (rw c.deref.ensures.value at c.settle_all.ensures.entries) ∙ become-same cs _ permuted once c.args.page es;
      listed = told ∙ ap (λ ys. c.args.changes.now.items ++ ys) (told-same cs _ permuted once it.rooms.options.padding c.args.page es);
      numbers = c.settle_all.ensures.made;
      reserved = c.settle_all.ensures.reserved;
      others = does.others;
      sizes = c.repack.ensures.sizes;
      options = c.repack.ensures.options;
      frame = refl;
      counts = ap (λ n. record it.counts { evictions = n }) evictions;
    })

pub returns-in_err-reserve-clause-told : goal.returns-in_err-reserve-clause-told
returns-in_err-reserve-clause-told g c =
    rw c.in_err-reserve.ensures.items (none-told g.K.PartialEq.eq c.args.changes.now.items c.args.self.now)

pub returns-in_err-held-clause-told : goal.returns-in_err-held-clause-told
returns-in_err-held-clause-told g c =
    rw c.in_ok-reserve.ensures.items (none-told g.K.PartialEq.eq c.args.changes.now.items c.args.self.now)

pub returns-in_err-list-clause-told : goal.returns-in_err-list-clause-told
returns-in_err-list-clause-told g c =
    rw (c.in_ok-reserve.ensures.items, c.in_err-list.ensures.refused, c.self.view_is)
    (none-told g.K.PartialEq.eq c.args.changes.now.items c.args.self.now)

pub returns-clause-told : goal.returns-clause-told
returns-clause-told g c =
    let own = own_keys g.K.PartialEq.eq c.self.inside.entries.entries c.prove_kept.ensures.keys in
    repacks_tell g.K.PartialEq.eq g.met.K.Eq.laws c.args.page c.args.changes.now.items c.settle_all.new.changes.items c.args.self.now _
    (rw (← c.self.view_is) own) (returns-clause-repacks g c refl)

pub returns-in_err-list-clause-short : goal.returns-in_err-list-clause-short
returns-in_err-list-clause-short g c = λ is.
    let same : c.from_residual-in_err-list.result ≡ Err c.in_err-list.field-0.0 = search rules in
    let short = c.in_err-list.ensures.short (ap Err (error_is c.in_err-list.field-0.0 c.from_residual-in_err-list.result same is)) in
    let many = ap length c.in_ok-held.ensures.held in
    rw (← c.self.view_is) (omega (arith, short, many))

pub returns-then-page-len-clause-told : goal.returns-then-page-len-clause-told
returns-then-page-len-clause-told g c = none-told g.K.PartialEq.eq c.args.changes.now.items c.args.self.now

pub returns-in_default-clause-told : goal.returns-in_default-clause-told
returns-in_default-clause-told g c =
    let same : c.repack.new.self ≡ c.self.inside.rooms = search rules in
    rw (c.in_ok-reserve.ensures.items, same, c.self.view_is) (none-told g.K.PartialEq.eq c.args.changes.now.items c.args.self.now)

pub returns-clause-keys : goal.returns-clause-keys
returns-clause-keys g c = λ _ whole.
    let it = c.self.inside in
    let list = c.in-Some.list in
    let es = entries_of c.self.inside.entries.entries in
    let off : c.args.page ≡ no_page → ⊥ = (λ q. omega (arith, q, c.if-page-len.false, c.len.ensures.numbered)) in
    let does = rw c.in-Some.is at c.in_ok-list.ensures.repacks
    (rw c.in_ok-held.ensures.held (entries-name c.args.page c.self.inside.rooms.pages es off c.self.invariant.held)) in
    let permuted = c.sort_by_id.ensures.permuted in
    let once = old_once it.rooms.pages c.repack.new.self.pages c.args.page list does in
    let all : list.failures.items ≡ [] = rw c.in-Some.is at c.in_ok-list.ensures.all whole in
    let entries = (rw c.deref.ensures.value at c.settle_all.ensures.entries)
    ∙ become-same list.changes.items _ permuted once c.args.page es in
    rw (← c.self.view_is) (ap keys_of entries
    ∙ keys-stay it.rooms.pages c.repack.new.self.pages c.args.page list does all off es
    (each-where (IsLiveOn it.rooms.pages) es c.self.invariant.held.live))

pub returns-clause-counts : goal.returns-clause-counts
returns-clause-counts g c = λ _ whole.
    let it = c.self.inside in
    let left = entries_of c.settle_all.new.entries.entries in
    let keys : keys_of left ≡ keys_of c.args.self.now.entries = returns-clause-keys g c refl whole in
    let same : length left ≡ length c.args.self.now.entries =
    sym (length-map left (λ (e : Entry g.row.K.Denot). e.key)) ∙ ap length keys
    ∙ length-map c.args.self.now.entries (λ (e : Entry g.row.K.Denot). e.key) in
    let as_many : length left ≡ length (entries_of it.entries.entries) = rw (← c.self.view_is) at same in
    let fits = c.self.ranges.1.1.1.0.1.1.1.1.0.1 in
    let none : c.saturating_add-self-inside.result ≡ it.counts.evictions =
    omega (
      arith,
      fits,
      as_many,
      c.saturating_add-self-inside.ensures,
      c.len-2.ensures.len,
      c.len-before.ensures.len,
      length-listed it.entries.entries,
      length-listed c.settle_all.new.entries.entries,
    ) in
    rw (← c.self.view_is) (ap (λ n. record it.counts { evictions = n }) none)
