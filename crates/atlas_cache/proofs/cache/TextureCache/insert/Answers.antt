use Rattle.std.proofs.Common.{◌≡◌, ◌+◌, ℤ, ap, false, inl, inr, length, not, refl, subst, sym, true, ◌&&◌, ◌∙◌, ◌∷◌, ◌++◌, [], arith}
use Rattle.std.proofs.lemmas.Bool.{cases_Bool}
use Rattle.std.proofs.lemmas.Bool.Decides.{Decides-int_eq}
use Rattle.std.specs.Ordering.{int_eq}
use Rattle.std.proofs.Common.{vec_capacity, vec_len}
use Rattle.atlas_cache.specs.Caches.{CacheState, entries_of}
use Rattle.atlas_cache.specs.Changes.{but_forced, Uses}
use Rattle.atlas_entries.specs.Entries.{without_number}
use Rattle.atlas_entries.specs.declared.entries.Entry.{Entry}
use Rattle.atlas_cache.proofs.CacheLemmas.{bordered-at, touched-is, used}
use Rattle.atlas_cache.proofs.InsertLemmas.{blank_takes, inserts_stay, inserts_take, not_held, not_never}
use Rattle.atlas_cache.proofs.KeyLemmas.{found_named, own_keys}
use Rattle.atlas_entries.proofs.AppendedLists.{append-none}
use Rattle.atlas_cache.proofs.ListLemmas.{parts}
use Rattle.atlas_cache.proofs.PictureLemmas.{blanks_tell, inserts_tell, same_shown, uses_tell}
use Rattle.guillotiere.specs.declared.Size.{Size}
use Rattle.guillotiere.specs.Pixels.{size_of}
use Rattle.atlas_cache.specs.Asking.{bordered}
use Rattle.atlas_cache.specs.Caches.{HasNoPageFor}
use Rattle.atlas_cache.specs.Placing.{LacksSlots}
use Rattle.atlas_cache.proofs.BlankLemmas.{length-less}
use Rattle.atlas_cache.proofs.ReadyLemmas.{allowed_after, blank_full, blank_not_short, blank_reserves, blank_uses, full_stays, one_fewer}
use Rattle.atlas_cache.proofs.ReadyLemmas.{one_reserved, ready_after, reserves_left, unrefused_while_ready}
use Rattle.atlas_cache.proofs.RoomLemmas.PageReserves.{none_used}
use Rattle.atlas_cache.proofs.cache.TextureCache.insert.Goals as goal

-- Sizes are the same where neither side differs.
same_size : (a b : Size) → not (int_eq a.width b.width && int_eq a.height b.height) ≡ false → a ≡ b
same_size a b told = elim (cases_Bool (int_eq a.width b.width)) [
  | inl width ↦ elim (cases_Bool (int_eq a.height b.height)) [
    | inl height ↦
        ap (λ (w : ℤ). record a { width = w }) ((Decides-int_eq a.width b.width).0 width)
        ∙ ap (λ (h : ℤ). record b { height = h }) ((Decides-int_eq a.height b.height).0 height)
    | inr other ↦ absurd (let t : true ≡ false = rw (width, other) at told in cc)
  ]
  | inr other ↦ absurd (let t : true ≡ false = rw other at told in cc)
]

pub place_of-requires : goal.place_of-requires
place_of-requires g c =
    let found = rw c.in-Some.is at c.look_up.ensures.found in
    rw c.options.ensures.options (bordered-at _ _ c.self.inside.entries.entries c.in-Some.entry c.self.invariant.bordered found.at)

pub invariant_of-self : goal.invariant_of-self
invariant_of-self g c =
    let found = rw c.in-Some.is at c.look_up.ensures.found in
    let it = c.self.inside in
    let n = c.in-Some.known in
    let e = c.in-Some.entry in
    let was = c.self.invariant in
    let p = parts n it.entries.entries e found.at in
    let k = used it.rooms.pages it.rooms.options.padding it.frame e (entries_of it.entries.entries)
    (entries_of (without_number n it.entries.entries)) p was.held was.bordered was.frames in
    rw (c.touch.ensures.entries, touched-is n it.frame it.entries.entries e found.at)
    (record { held = k.held; bordered = k.bordered; frames = k.frames })

pub returns-in-Some-clause-known : goal.returns-in-Some-clause-known
returns-in-Some-clause-known g c =
    let found = rw c.in-Some.is at c.look_up.ensures.found in
    let it = c.self.inside in
    let n = c.in-Some.known in
    let e = c.in-Some.entry in
    let p = parts n it.entries.entries e found.at in
    let front : Entry g.row.K.Denot = record e { frame = it.frame } in
    let sized = same_size e.size c.args.size (sym c.ne.ensures ∙ c.if-ne.false) in
    rw (← c.self.view_is, found.here, c.touch.ensures.entries, touched-is n it.frame it.entries.entries e found.at) (
      record {
        same = λ _. (
          rw (c.place_of.ensures, c.options.ensures.options) refl,
          record {
            newer = p.newer;
            older = p.older;
            was = p.was;
            is = ap (λ r. front ∷ r) p.rests;
            pages = refl;
            numbers = c.touch.ensures.made;
            reserved = c.touch.ensures.reserved;
            options = refl;
            frame = refl;
          },
          rw c.count-self-inside.ensures refl,
        );
        other = λ differ. absurd (differ sized);
      },
      refl,
    )

pub returns-clause-blank : goal.returns-clause-blank
returns-clause-blank g c = λ new. absurd (new.empty c.in-Some-asked.ensures.0.positive)

pub returns-clause-memory : goal.returns-clause-memory
returns-clause-memory g c = λ empty some is. absurd (empty c.in-Some-asked.ensures.0.positive)

pub returns-in-Some-clause-takes : goal.returns-in-Some-clause-takes
returns-in-Some-clause-takes g c = rw (← c.self.view_is) (omega (arith, c.touch.ensures.reserved))

pub returns-then-not-is_positive-clause-takes : goal.returns-then-not-is_positive-clause-takes
returns-then-not-is_positive-clause-takes g c =
    blank_takes c.args.key c.args.size c.add_blank.result c.args.self.now c.add_blank.new.self c.add_blank.ensures.inserts

pub returns-clause-takes : goal.returns-clause-takes
returns-clause-takes g c =
    inserts_take c.in-Some-asked.asked c.args.key c.args.size c.insert_new.result c.args.changes.now.items
    c.insert_new.new.changes.items c.args.self.now (but_forced c.args.self.now c.insert_new.new.self)
    c.insert_new.ensures.inserts.does

pub returns-clause-never : goal.returns-clause-never
returns-clause-never g c =
    let stands = c.in-Some-asked.ensures.0 in (
      λ is. absurd (not_never c.in-Some-asked.asked c.args.key c.args.size c.insert_new.result c.args.changes.now.items
          c.insert_new.new.changes.items c.args.self.now (but_forced c.args.self.now c.insert_new.new.self)
          c.insert_new.ensures.inserts.does is),
      λ new. absurd (new.large (rw (← c.self.view_is) (rw c.options-2.ensures.options at stands))),
    )

pub returns-clause-held : goal.returns-clause-held
returns-clause-held g c = λ place is.
    absurd (not_held c.in-Some-asked.asked c.args.key c.args.size c.insert_new.result c.args.changes.now.items
    c.insert_new.new.changes.items c.args.self.now (but_forced c.args.self.now c.insert_new.new.self)
    c.insert_new.ensures.inserts.does place is)

pub returns-clause-hit : goal.returns-clause-hit
returns-clause-hit g c = λ place is.
    absurd (not_held c.in-Some-asked.asked c.args.key c.args.size c.insert_new.result c.args.changes.now.items
    c.insert_new.new.changes.items c.args.self.now (but_forced c.args.self.now c.insert_new.new.self)
    c.insert_new.ensures.inserts.does place is)

pub returns-clause-stays : goal.returns-clause-stays
returns-clause-stays g c =
    inserts_stay c.in-Some-asked.asked c.args.key c.args.size c.insert_new.result c.args.changes.now.items
    c.insert_new.new.changes.items c.args.self.now (but_forced c.args.self.now c.insert_new.new.self)
    c.insert_new.ensures.inserts.does

pub returns-then-ne-clause-told : goal.returns-then-ne-clause-told
returns-then-ne-clause-told g c = record {
  made = [];
  listed = sym (append-none c.args.changes.now.items);
  shows = same_shown g.K.PartialEq.eq c.args.self.now;
}

pub returns-then-not-is_positive-clause-told : goal.returns-then-not-is_positive-clause-told
returns-then-not-is_positive-clause-told g c =
    blanks_tell g.K.PartialEq.eq g.met.K.Eq.laws c.args.key c.args.size c.add_blank.result c.args.changes.now.items c.args.self.now
    c.add_blank.new.self c.add_blank.ensures.inserts

pub returns-in_default-asked-clause-told : goal.returns-in_default-asked-clause-told
returns-in_default-asked-clause-told g c = record {
  made = [];
  listed = sym (append-none c.args.changes.now.items);
  shows = same_shown g.K.PartialEq.eq c.args.self.now;
}

pub returns-in-Some-clause-told : goal.returns-in-Some-clause-told
returns-in-Some-clause-told g c =
    let found = rw c.in-Some.is at c.look_up.ensures.found in
    let eq = g.K.PartialEq.eq in
    let laws = g.met.K.Eq.laws in
    let it = c.self.inside in
    let n = c.in-Some.known in
    let e = c.in-Some.entry in
    let p = parts n it.entries.entries e found.at in
    let front : Entry g.row.K.Denot = record e { frame = it.frame } in
    let s : CacheState g.row.K.Denot = record {
      options = it.rooms.options;
      pages = it.rooms.pages;
      entries = entries_of it.entries.entries;
      numbers = it.entries.made;
      reserved = it.entries.reserved;
      frame = it.frame;
      counts = it.counts;
    } in
    let t : CacheState g.row.K.Denot = record s {
      entries = entries_of c.touch.new.self.entries;
      numbers = c.touch.new.self.made;
      reserved =
          c.touch.new.self.reserved;
      counts = record it.counts { hits = c.count-self-inside.result };
    } in
    let uses : Uses e s t = record {
      newer = p.newer;
      older = p.older;
      was = p.was;
      is = rw (c.touch.ensures.entries, touched-is n it.frame it.entries.entries e found.at) (ap (λ r. front ∷ r) p.rests);
      pages = refl;
      numbers = c.touch.ensures.made;
      reserved = c.touch.ensures.reserved;
      options = refl;
      frame = refl;
    } in
    let own = own_keys eq it.entries.entries c.prove_kept.ensures.keys in
    let named = laws.symm e.key c.args.key ∙ found_named eq c.args.key e (entries_of it.entries.entries) found.here in
    rw (← c.self.view_is, c.place_of.ensures, c.options.ensures.options) (record {
      made = [];
      listed = sym (append-none c.args.changes.now.items);
      shows = uses_tell eq laws c.args.key e s t own named uses;
    })

pub returns-clause-told : goal.returns-clause-told
returns-clause-told g c =
    let own = own_keys g.K.PartialEq.eq c.self.inside.entries.entries c.prove_kept.ensures.keys in
    let told = inserts_tell g.K.PartialEq.eq g.met.K.Eq.laws c.in-Some-asked.asked c.args.key c.args.size c.insert_new.result
    c.args.changes.now.items c.insert_new.new.changes.items c.args.self.now (but_forced c.args.self.now c.insert_new.new.self)
    (rw (← c.self.view_is) own) c.insert_new.ensures.inserts.does in
    record { made = told.made; listed = told.listed; shows = told.shows }

pub returns-then-ne-clause-reserves : goal.returns-then-ne-clause-reserves
returns-then-ne-clause-reserves g c = rw (← c.self.view_is) (λ n had _. (λ is. cc, one_fewer n _ _ had))

pub returns-in-Some-clause-reserves : goal.returns-in-Some-clause-reserves
returns-in-Some-clause-reserves g c =
    let found = rw c.in-Some.is at c.look_up.ensures.found in
    let it = c.self.inside in
    let n = c.in-Some.known in
    let e = c.in-Some.entry in
    let p = parts n it.entries.entries e found.at in
    let less = length-less p.newer e p.older in
    let now : length (entries_of c.touch.new.self.entries) ≡ length (p.newer ++ p.older) + 1 =
    rw (c.touch.ensures.entries, touched-is n it.frame it.entries.entries e found.at) (omega (arith, ap length p.rests)) in
    rw (← c.self.view_is) (λ k had _. (
      λ is. cc,
      reserves_left k (k + 1) _ _ 4 _ _ (none_used 4 it.rooms.pages) (omega arith) (omega (arith, c.touch.ensures.reserved))
          (omega (arith, less, ap length p.was, now)) had,
    ))

pub returns-then-not-is_positive-clause-reserves : goal.returns-then-not-is_positive-clause-reserves
returns-then-not-is_positive-clause-reserves g c = λ n had _. (
  c.add_blank.ensures.memory (omega (arith, had.entries)),
  blank_reserves c.args.key c.args.size c.add_blank.result c.args.self.now c.add_blank.new.self n _ c.add_blank.ensures.inserts had,
)

pub returns-then-not-is_positive-clause-full : goal.returns-then-not-is_positive-clause-full
returns-then-not-is_positive-clause-full g c =
    blank_full c.args.key c.args.size c.add_blank.result c.args.self.now c.add_blank.new.self c.add_blank.ensures.inserts

pub returns-in_default-asked-clause-reserves : goal.returns-in_default-asked-clause-reserves
returns-in_default-asked-clause-reserves g c = rw (← c.self.view_is) (λ n had _. (λ is. cc, one_fewer n _ _ had))

pub returns-clause-reserves : goal.returns-clause-reserves
returns-clause-reserves g c = λ n had keeps.
    let stands = c.in-Some-asked.ensures.0 in
    let asked = rw c.options-2.ensures.options at c.in-Some-asked.ensures.1 in
    let is : c.in-Some-asked.asked ≡ size_of (bordered c.args.self.now.options c.args.size) = rw (← c.self.view_is) asked in
    c.insert_new.ensures.reserves n had (λ none.
    keeps stands.positive (subst (λ (asked : Size). HasNoPageFor asked c.args.self.now) is none))

pub returns-then-not-is_positive-clause-one : goal.returns-then-not-is_positive-clause-one
returns-then-not-is_positive-clause-one g c = λ some slots room keeps. c.add_blank.ensures.memory some

pub returns-clause-one : goal.returns-clause-one
returns-clause-one g c = λ some slots room keeps.
    let stands = c.in-Some-asked.ensures.0 in
    let asked = rw c.options-2.ensures.options at c.in-Some-asked.ensures.1 in
    let is : c.in-Some-asked.asked ≡ size_of (bordered c.args.self.now.options c.args.size) = rw (← c.self.view_is) asked in
    let had = one_reserved (vec_capacity c.args.changes.now) (vec_len c.args.changes.now) c.args.self.now some slots room in
    (c.insert_new.ensures.reserves 0 had (λ none.
    keeps stands.positive (subst (λ (asked : Size). HasNoPageFor asked c.args.self.now) is none))).0

pub returns-then-not-is_positive-clause-short : goal.returns-then-not-is_positive-clause-short
returns-then-not-is_positive-clause-short g c = λ is.
    absurd (blank_not_short c.args.key c.args.size c.add_blank.result c.args.self.now c.add_blank.new.self c.add_blank.ensures.inserts is)

pub returns-then-ne-clause-slots : goal.returns-then-ne-clause-slots
returns-then-ne-clause-slots g c = λ _. rw (← c.self.view_is) (none_used 4 c.self.inside.rooms.pages)

pub returns-in-Some-clause-slots : goal.returns-in-Some-clause-slots
returns-in-Some-clause-slots g c = λ _. rw (← c.self.view_is) (none_used 4 c.self.inside.rooms.pages)

pub returns-in_default-asked-clause-slots : goal.returns-in_default-asked-clause-slots
returns-in_default-asked-clause-slots g c = λ _. rw (← c.self.view_is) (none_used 4 c.self.inside.rooms.pages)

pub returns-then-not-is_positive-clause-slots : goal.returns-then-not-is_positive-clause-slots
returns-then-not-is_positive-clause-slots g c = λ _.
    blank_uses c.args.key c.args.size c.add_blank.result c.args.self.now c.add_blank.new.self c.add_blank.ensures.inserts

pub returns-clause-slots : goal.returns-clause-slots
returns-clause-slots g c = λ keeps.
    let stands = c.in-Some-asked.ensures.0 in
    let asked = rw c.options-2.ensures.options at c.in-Some-asked.ensures.1 in
    let is : c.in-Some-asked.asked ≡ size_of (bordered c.args.self.now.options c.args.size) = rw (← c.self.view_is) asked in
    c.insert_new.ensures.slots (λ none.
    keeps stands.positive (subst (λ (asked : Size). HasNoPageFor asked c.args.self.now) is none))

pub returns-then-not-is_positive-clause-already : goal.returns-then-not-is_positive-clause-already
returns-then-not-is_positive-clause-already g c = λ _ is.
    absurd (blank_not_short c.args.key c.args.size c.add_blank.result c.args.self.now c.add_blank.new.self c.add_blank.ensures.inserts is)

pub returns-clause-already : goal.returns-clause-already
returns-clause-already g c = λ keeps.
    let stands = c.in-Some-asked.ensures.0 in
    let asked = rw c.options-2.ensures.options at c.in-Some-asked.ensures.1 in
    let is : c.in-Some-asked.asked ≡ size_of (bordered c.args.self.now.options c.args.size) = rw (← c.self.view_is) asked in
    c.insert_new.ensures.already (λ none.
    keeps stands.positive (subst (λ (asked : Size). HasNoPageFor asked c.args.self.now) is none))

pub returns-then-ne-clause-allowed : goal.returns-then-ne-clause-allowed
returns-then-ne-clause-allowed g c = λ n allow keeps.
    allowed_after _ c.args.self.now.pages _ (returns-then-ne-clause-slots g c keeps) (λ is. cc) n allow

pub returns-in-Some-clause-allowed : goal.returns-in-Some-clause-allowed
returns-in-Some-clause-allowed g c = λ n allow keeps.
    allowed_after _ c.args.self.now.pages _ (returns-in-Some-clause-slots g c keeps) (λ is. cc) n allow

pub returns-in_default-asked-clause-allowed : goal.returns-in_default-asked-clause-allowed
returns-in_default-asked-clause-allowed g c = λ n allow keeps.
    allowed_after _ c.args.self.now.pages _ (returns-in_default-asked-clause-slots g c keeps) (λ is. cc) n allow

pub returns-then-not-is_positive-clause-allowed : goal.returns-then-not-is_positive-clause-allowed
returns-then-not-is_positive-clause-allowed g c = λ n allow keeps.
    allowed_after c.add_blank.result c.args.self.now.pages c.add_blank.new.self.pages
    (returns-then-not-is_positive-clause-slots g c keeps) (returns-then-not-is_positive-clause-already g c keeps) n allow

pub returns-clause-allowed : goal.returns-clause-allowed
returns-clause-allowed g c = λ n allow keeps.
    allowed_after c.insert_new.result c.args.self.now.pages c.insert_new.new.self.pages (returns-clause-slots g c keeps)
    (returns-clause-already g c keeps) n allow

pub returns-then-ne-clause-ready : goal.returns-then-ne-clause-ready
returns-then-ne-clause-ready g c =
    ready_after _ c.args.size _ _ c.args.self.now _ (returns-then-ne-clause-reserves g c) (returns-then-ne-clause-allowed g c)
    (rw (← c.self.view_is) (λ full. full))

pub returns-then-ne-clause-unrefused : goal.returns-then-ne-clause-unrefused
returns-then-ne-clause-unrefused g c =
    unrefused_while_ready _ c.args.size _ _ c.args.self.now _ (returns-then-ne-clause-reserves g c) (returns-then-ne-clause-allowed g c)

pub returns-in-Some-clause-ready : goal.returns-in-Some-clause-ready
returns-in-Some-clause-ready g c =
    ready_after _ c.args.size _ _ c.args.self.now _ (returns-in-Some-clause-reserves g c) (returns-in-Some-clause-allowed g c)
    (rw (← c.self.view_is) (λ full. record { all = full.all; largest = full.largest }))

pub returns-in-Some-clause-unrefused : goal.returns-in-Some-clause-unrefused
returns-in-Some-clause-unrefused g c =
    unrefused_while_ready _ c.args.size _ _ c.args.self.now _ (returns-in-Some-clause-reserves g c) (returns-in-Some-clause-allowed g c)

pub returns-then-not-is_positive-clause-ready : goal.returns-then-not-is_positive-clause-ready
returns-then-not-is_positive-clause-ready g c =
    ready_after c.add_blank.result c.args.size _ _ c.args.self.now c.add_blank.new.self (returns-then-not-is_positive-clause-reserves g c)
    (returns-then-not-is_positive-clause-allowed g c)
    (returns-then-not-is_positive-clause-full g c)

pub returns-then-not-is_positive-clause-unrefused : goal.returns-then-not-is_positive-clause-unrefused
returns-then-not-is_positive-clause-unrefused g c =
    unrefused_while_ready c.add_blank.result c.args.size _ _ c.args.self.now c.add_blank.new.self
    (returns-then-not-is_positive-clause-reserves g c) (returns-then-not-is_positive-clause-allowed g c)

pub returns-in_default-asked-clause-ready : goal.returns-in_default-asked-clause-ready
returns-in_default-asked-clause-ready g c =
    ready_after _ c.args.size _ _ c.args.self.now _ (returns-in_default-asked-clause-reserves g c)
    (returns-in_default-asked-clause-allowed g c)
    (rw (← c.self.view_is) (λ full. full))

pub returns-in_default-asked-clause-unrefused : goal.returns-in_default-asked-clause-unrefused
returns-in_default-asked-clause-unrefused g c =
    unrefused_while_ready _ c.args.size _ _ c.args.self.now _ (returns-in_default-asked-clause-reserves g c)
    (returns-in_default-asked-clause-allowed g c)

pub returns-clause-ready : goal.returns-clause-ready
returns-clause-ready g c =
    ready_after c.insert_new.result c.args.size _ _ c.args.self.now c.insert_new.new.self (returns-clause-reserves g c)
    (returns-clause-allowed g c)
    (c.insert_new.ensures.full)

pub returns-clause-unrefused : goal.returns-clause-unrefused
returns-clause-unrefused g c =
    unrefused_while_ready c.insert_new.result c.args.size _ _ c.args.self.now c.insert_new.new.self (returns-clause-reserves g c)
    (returns-clause-allowed g c)

pub returns-in-Some-clause-full : goal.returns-in-Some-clause-full
returns-in-Some-clause-full g c = rw (← c.self.view_is) (full_stays _ _ refl refl)

pub returns-then-not-is_positive-clause-lacks : goal.returns-then-not-is_positive-clause-lacks
returns-then-not-is_positive-clause-lacks g c = λ is.
    absurd (blank_not_short c.args.key c.args.size c.add_blank.result c.args.self.now c.add_blank.new.self c.add_blank.ensures.inserts is)

pub returns-clause-lacks : goal.returns-clause-lacks
returns-clause-lacks g c = λ is.
    let asked = rw c.options-2.ensures.options at c.in-Some-asked.ensures.1 in
    let same : c.in-Some-asked.asked ≡ size_of (bordered c.args.self.now.options c.args.size) = rw (← c.self.view_is) asked in
    subst (λ (a : Size). LacksSlots a c.insert_new.new.self.options c.insert_new.new.self.pages) same (c.insert_new.ensures.lacks is)
