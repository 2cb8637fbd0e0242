use Rattle.std.proofs.Common.{◌<◌, ◌≡◌, ◌∙◌, ◌∷◌, [], ap, arith, false, refl, rules, length, sym, true, Err, List}
use Rattle.std.proofs.lemmas.Bool.{eqb-true}
use Rattle.std.proofs.lemmas.List.Sorted.{All-permutation, length_permutation}
use Rattle.guillotiere.specs.Refits.Refitted.{HasExactRectangle}
use Rattle.guillotiere.specs.States.{used_in, State}
use Rattle.guillotiere.specs.Stored.{state_of}
use Rattle.atlas_cache.proofs.ReadyLemmas.{error_is}
use Rattle.atlas_cache.proofs.RoomLemmas.KeptPages.{rooms_stay, sizes_stay}
use Rattle.atlas_cache.proofs.RoomLemmas.RepackedPages.{frame_here, named_permuted, named_there, page_placed, page_repacks, placing_tells}
use Rattle.atlas_cache.proofs.RoomLemmas.RepackedPages.{refits_here, starts_alike, state_here}
use Rattle.atlas_cache.proofs.RoomLemmas.KnownPages.{known_set}
use Rattle.atlas_cache.proofs.ShrinkLemmas.{last_number}
use Rattle.atlas_cache.proofs.rooms.Rooms.repack.Goals.{else-whole-via-then-whole+else-not-is_empty, else-whole-via-else-whole}
use Rattle.atlas_cache.proofs.rooms.Rooms.repack.Goals as goal

no_items : {X : Type 0} (xs : List X) → length xs ≡ 0 → xs ≡ []
no_items [] none = refl
no_items (x ∷ xs) none = absurd (omega (arith, none))

pub place_all-requires : goal.place_all-requires
place_all-requires g c = record {
  exact = All-permutation HasExactRectangle _ _ c.sort_by_area.ensures.permuted c.requires.exact;
}

pub invariant_of-self : goal.invariant_of-self
invariant_of-self g c =
    let pages = c.self.inside.pages.items in
    let a = c.index.result.now in
    let b = c.place_all.new.atlas in
    let within : c.args.page < length pages = rw (← c.self.view_is) at c.requires.page in
    let start = starts_alike pages c.args.page a b c.index.ensures within c.self.inside.options c.size-size.result
    (state_of c.in-Ok.placed) c.self.invariant.0 c.size-size.ensures.size c.in-Ok.ensures.state in (
      rooms_stay pages c.args.page a b c.index.ensures within c.self.inside.options c.prove_sound.ensures.sound
          (frame_here (state_of a) (state_of c.in-Ok.placed) (state_of b) c.sort_by_area.new.held.items c.in_ok-list.list
          c.size-size.ensures.sound c.prove_sound.ensures.sound start c.in_ok-list.ensures.refits)
          c.self.invariant.0,
      known_set pages c.self.inside.known.items c.args.page b c.changed.result within
          (c.changed.ensures b c.allocated_area.ensures.area) c.self.invariant.1,
    )

pub index_mut-requires-2 : goal.index_mut-requires-2
index_mut-requires-2 g c =
    let within : c.args.page < length c.self.inside.pages.items = rw (← c.self.view_is) at c.requires.page in
    omega (arith, within, c.self.invariant.1.as_many, c.self.inside.known.ok.0)

pub returns-clause-repacks : goal.returns-clause-repacks
returns-clause-repacks g c = λ names.
    let pages = c.self.inside.pages.items in
    let a = c.index.result.now in
    let b = c.place_all.new.atlas in
    let within : c.args.page < length pages = rw (← c.self.view_is) at c.requires.page in
    let start = starts_alike pages c.args.page a b c.index.ensures within c.self.inside.options c.size-size.result
    (state_of c.in-Ok.placed) c.self.invariant.0 c.size-size.ensures.size c.in-Ok.ensures.state in
    let order = c.sort_by_area.new.held.items in
    let named = named_permuted _ _ _ _ c.sort_by_area.ensures.permuted (rw (← c.self.view_is) at names) in
    let exact = All-permutation HasExactRectangle _ _ c.sort_by_area.ensures.permuted c.requires.exact in
    rw (← c.self.view_is) (page_repacks pages c.args.page a b c.index.ensures within c.in_ok-list.list
    (placing_tells (state_of a) (state_of c.in-Ok.placed) (state_of b) c.sort_by_area.new.held.items c.in_ok-list.list
    c.size-size.ensures.sound c.prove_sound.ensures.sound start c.in_ok-list.ensures.refits exact
    (named_there pages c.args.page a b c.index.ensures within order named) named.once c.in_ok-list.ensures.exact))

pub returns-clause-placed : goal.returns-clause-placed
returns-clause-placed g c =
    let pages = c.self.inside.pages.items in
    let a = c.index.result.now in
    let b = c.place_all.new.atlas in
    let within : c.args.page < length pages = rw (← c.self.view_is) at c.requires.page in
    let start = starts_alike pages c.args.page a b c.index.ensures within c.self.inside.options c.size-size.result
    (state_of c.in-Ok.placed) c.self.invariant.0 c.size-size.ensures.size c.in-Ok.ensures.state in
    let order = c.sort_by_area.new.held.items in
    rw (← c.self.view_is) (record {
      order = order;
      ordered = c.in_ok-sort_by_area.ensures.ordered;
      placed = page_placed pages c.args.page a b c.index.ensures within order c.in_ok-list.list
          (refits_here (state_of a) (state_of c.in-Ok.placed) (state_of b) c.sort_by_area.new.held.items c.in_ok-list.list
          c.size-size.ensures.sound c.prove_sound.ensures.sound start c.in_ok-list.ensures.refits)
          (state_here (state_of a) (state_of c.in-Ok.placed) (state_of b) c.sort_by_area.new.held.items c.in_ok-list.list
          c.size-size.ensures.sound c.prove_sound.ensures.sound start c.in_ok-list.ensures.refits);
    })

pub returns-clause-sizes : goal.returns-clause-sizes
returns-clause-sizes g c =
    let pages = c.self.inside.pages.items in
    let a = c.index.result.now in
    let b = c.place_all.new.atlas in
    let within : c.args.page < length pages = rw (← c.self.view_is) at c.requires.page in
    let start = starts_alike pages c.args.page a b c.index.ensures within c.self.inside.options c.size-size.result
    (state_of c.in-Ok.placed) c.self.invariant.0 c.size-size.ensures.size c.in-Ok.ensures.state in
    rw (← c.self.view_is) (sizes_stay pages c.args.page a b c.index.ensures within
    (frame_here (state_of a) (state_of c.in-Ok.placed) (state_of b) c.sort_by_area.new.held.items c.in_ok-list.list
    c.size-size.ensures.sound c.prove_sound.ensures.sound start c.in_ok-list.ensures.refits))

pub returns-in_err-list-clause-short : goal.returns-in_err-list-clause-short
returns-in_err-list-clause-short g c = λ is.
    let same : c.from_residual-in_err-list.result ≡ Err c.in_err-list.field-0.0 = search rules in
    let short = c.in_err-list.ensures.short (ap Err (error_is c.in_err-list.field-0.0 c.from_residual-in_err-list.result same is)) in
    let state = c.in-Ok.ensures.state in
    let limit = ap (λ (s : State). s.limit) state in
    let used = ap (λ (s : State). used_in s) state in
    omega (arith, short, limit, used, length_permutation _ _ c.sort_by_area.ensures.permuted)

pub returns-clause-all : goal.returns-clause-all
returns-clause-all g c = λ whole. elim c.else-whole.branch [
  | else-whole-via-then-whole+else-not-is_empty w ↦
      let failures = c.in_ok-list.list.failures in
      let none : failures.len ≡ 0 = eqb-true failures.len 0 (sym w.is_empty.ensures ∙ w.if-not-is_empty.false) in
      no_items failures.items (omega (arith, none, failures.ok.0))
  | else-whole-via-else-whole w ↦ absurd (let t : true ≡ false = sym whole ∙ w.if-whole.false in cc)
]

pub returns-then-not-is_empty-clause-loses : goal.returns-then-not-is_empty-clause-loses
returns-then-not-is_empty-clause-loses g c = λ _. (
  c.if-whole.true,
  (let pages = c.self.inside.pages.items in
      let a = c.index.result.now in
      let b = c.place_all.new.atlas in
      let within : c.args.page < length pages = rw (← c.self.view_is) at c.requires.page in
      let start = starts_alike pages c.args.page a b c.index.ensures within c.self.inside.options c.size-size.result
      (state_of c.in-Ok.placed) c.self.invariant.0 c.size-size.ensures.size c.in-Ok.ensures.state in
      let order = c.sort_by_area.new.held.items in
      let list = c.in_ok-list.list in
      let number = last_number list.failures.len c.is_empty.result c.is_empty.ensures c.if-not-is_empty.true in
      rw (← c.self.view_is) (record {
        within = within;
        anew = b;
        moved = list.changes.items;
        given_up = list.failures.items;
        placed = record {
          order = order;
          ordered = c.in_ok-sort_by_area.ensures.ordered;
          placed = page_placed pages c.args.page a b c.index.ensures within order list
              (refits_here (state_of a) (state_of c.in-Ok.placed) (state_of b) order list c.size-size.ensures.sound
              c.prove_sound.ensures.sound start c.in_ok-list.ensures.refits)
              (state_here (state_of a) (state_of c.in-Ok.placed) (state_of b) order list c.size-size.ensures.sound
              c.prove_sound.ensures.sound start c.in_ok-list.ensures.refits);
        };
        some = λ nothing. omega (arith, number, list.failures.ok.0, ap length nothing);
      })),
)
