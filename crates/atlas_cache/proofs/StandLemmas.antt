-- A frame that has used nothing has room for whatever can stand on a page, and one that has used all has none.
use Rattle.std.proofs.Common.{ℕ, ◌<◌, ◌≤◌, ◌≡◌, ◌&&◌, ◌==◌, true, false, Bool, eqb, ltb, not, filter, find, option_map}
use Rattle.std.proofs.Common.{List, [], ◌∷◌, length, slice_get}
use Rattle.std.proofs.Common.{Some, refl, sym, ap, subst, ◌∙◌, arith, inl, inr, eq-eqb}
use Rattle.std.proofs.Math.Bool.{and-false, or-true}
use Rattle.std.proofs.lemmas.{Bool.{cases_Bool}}
use Rattle.std.proofs.lemmas.Bool.Decides.{eqb_tells}
use Rattle.std.proofs.lemmas.List.{length-map}
use Rattle.std.proofs.lemmas.Option.{slice_get_within}
use Rattle.std.specs.List.{AllByRecursion}
use Rattle.std.proofs.lemmas.Bool.{lt-ltb, eqb-true}
use Rattle.guillotiere.specs.declared.Rectangle.{Rectangle}
use Rattle.guillotiere.specs.declared.Size.{Size}
use Rattle.guillotiere.specs.Boxes.{Box, Fits, Sides, IsPositive, whole_box}
use Rattle.guillotiere.specs.Changes.{release}
use Rattle.guillotiere.specs.Choice.{rounded, HasNoRoom, HasRoom, Options}
use Rattle.guillotiere.specs.Pages.{size_of_page, NoneHasRoomBelow}
use Rattle.guillotiere.specs.Pixels.{options_of, rectangle_of, sides_of, size_of}
use Rattle.guillotiere.specs.States.{after_freeing, free_in, live_in, IsSound, State}
use Rattle.guillotiere.specs.Stored.{AtlasValue, state_of}
use Rattle.guillotiere.specs.Trees.{Grant}
use Rattle.guillotiere.proofs.StepLemmas.FreedRoom.{nothing_shown}
use Rattle.guillotiere.proofs.TreeLemmas.TreeIdle.{nothing_live}
use Rattle.guillotiere.proofs.TreeLemmas.TreeIds.{Contains-first}
use Rattle.guillotiere.proofs.TreeLemmas.TreeKept.{release_keeps}
use Rattle.atlas_cache.specs.declared.changes.CacheChange.{CacheChange}
use Rattle.atlas_cache.specs.declared.changes.CacheChange.TheVariants.{PageAdded, PageGrown, Evicted, Moved, PageRemoved}
use Rattle.atlas_entries.specs.declared.entries.Entry.{Entry}
use Rattle.atlas_cache.specs.declared.options.CacheOptions.{CacheOptions}
use Rattle.atlas_cache.specs.Asking.{bordered, AreUsable, CanStand}
use Rattle.atlas_cache.specs.Caches.{has_id, holders, CacheState, HasNoPageFor, HoldsEntries, AreAllInUse, IsFull, IsNoneInUse}
use Rattle.atlas_cache.specs.Changes.{Does, IsExhausted, Leads}
use Rattle.atlas_cache.specs.Vacating.{idle_on, HasNoRoomWithout}
use Rattle.atlas_entries.specs.Entries.{is_blank, lying, no_page}
use Rattle.atlas_cache.specs.Rooms.{rooms_of, KeepsRooms}
use Rattle.atlas_cache.proofs.RoomLemmas.KeptPages.{page_at}
use Rattle.atlas_entries.proofs.AppendedLists.{each-without}

-- Where no page has room, none has with nothing more freed.
pub none-shown : (asked : Size) (pages : List AtlasValue) (o : CacheOptions) → KeepsRooms (rooms_of o pages)
    → NoneHasRoomBelow asked pages (length pages) → (page : ℕ)
    → HasNoRoomWithout asked pages page (λ (id : ℕ). false)
none-shown asked pages o kept none page v is room =
    let own = kept.each page v is in
    let same = nothing_shown (state_of v) own.sound in
    none page v (slice_get_within pages page v is) is
    (subst (λ (free : List Box). HasRoom free (state_of v).options (sides_of asked)) same room)

same-false : (a b : ℕ) → a ≡ b → ltb a b ≡ false
same-false a b same = grind (arith, same)

eqb-not : (a b : ℕ) → (a ≡ b → ⊥) → eqb a b ≡ false
eqb-not a b other = elim (eqb_tells a b) [
  | inl same ↦ absurd (other same.1)
  | inr differ ↦ differ.0
]

module _ {K : Type 0} where
  -- Where a frame used each entry that lies on a page, none of a page is idle.
  idle-none : (frame page : ℕ) (es : List (Entry K)) → (page ≡ no_page → ⊥)
      → AllByRecursion (λ e. e.frame ≡ frame) (lying es) → (k : ℕ) → idle_on frame page es k ≡ false
  idle-none frame page [] there used k = refl
  idle-none frame page (e ∷ es) there used k = elim (cases_Bool (is_blank e)) [
    | inl blank ↦
        let other = eqb-not e.page page (λ same. there (sym same ∙ eqb-true e.page no_page blank)) in
        rw other (idle-none frame page es there (rw blank at used) k)
    | inr on ↦
        let both = rw on at used in
        rw (same-false e.frame frame both.0, and-false (has_id page k e)) (idle-none frame page es there both.1 k)
  ]

  -- Where each entry that lies on a page is used in this frame, a request without room has none in this frame.
  pub used-up : (asked : Size) (s : CacheState K) → IsFull s → HasNoPageFor asked s → AreAllInUse s
      → KeepsRooms (rooms_of s.options s.pages) → length s.pages ≤ no_page → IsExhausted asked s
  used-up asked s full none used kept few = record { none = none; full = full; crowded = crowded }
    where
      is-empty : (page : ℕ) → page < length s.pages → (λ (id : ℕ). false) ≡ idle_on s.frame page s.entries
      is-empty page within = λ i k. at_each k i
        where
          at_each : (k : ℕ) → false ≡ idle_on s.frame page s.entries k
          at_each k = sym (idle-none s.frame page s.entries (λ same. omega (arith, within, few, same)) used k)

      crowded : (page : ℕ) → HasNoRoomWithout asked s.pages page (idle_on s.frame page s.entries)
      crowded page v is =
          subst (λ (ids : ℕ → Bool). HasNoRoom (free_in (after_freeing (state_of v) ids)) (state_of v).options (sides_of asked))
          (is-empty page (slice_get_within s.pages page v is)) (none-shown asked s.pages s.options kept none page v is)

  does-unused : (c : CacheChange K) (s t : CacheState K) → Does c s t → IsNoneInUse s → IsNoneInUse t
  does-unused (PageAdded page size) s t does none = rw (does.keeps.entries, does.keeps.frame) none
  does-unused (PageGrown page size) s t does none = rw (does.keeps.entries, does.keeps.frame) none
  does-unused (Evicted key place) s t does none =
      let goes = does.goes in
      rw (goes.frame, goes.is) (each-without (λ (e : Entry K). e.frame < s.frame) goes.newer goes.entry goes.older (rw goes.was at none))
  does-unused (Moved key from to) s t does none = absurd does
  does-unused (PageRemoved page) s t does none = absurd does

  pub led-unused : (asked : Size) (cs : List (CacheChange K)) (s t : CacheState K) → Leads asked cs s t → IsNoneInUse s
      → IsNoneInUse t
  led-unused asked [] s t same none = subst (λ (u : CacheState K). IsNoneInUse u) same none
  led-unused asked (c ∷ cs) s t leads none =
      led-unused asked cs leads.0 t leads.3 (does-unused c s leads.0 leads.2 none)

  -- An id that an entry holds which lies on a page is idle, where the frame used none.
  held-idle : (frame page id : ℕ) (es : List (Entry K)) → AllByRecursion (λ e. e.frame < frame) es
      → 0 < holders page id (lying es) → idle_on frame page es id ≡ true
  held-idle frame page id [] unused held = absurd (omega (arith, held))
  held-idle frame page id (e ∷ es) unused held = elim (cases_Bool (is_blank e)) [
    | inl blank ↦
        rw (held-idle frame page id es unused.1 (rw blank at held)) (or-true (has_id page id e && ltb e.frame frame))
    | inr on ↦
        let some = rw on at held in
        elim (cases_Bool (has_id page id e)) [
          | inl it ↦ rw (it, lt-ltb e.frame frame unused.0) refl
          | inr other ↦
              let rest = rw other at some in
              rw (held-idle frame page id es unused.1 (omega (arith, rest))) (or-true (has_id page id e && ltb e.frame frame))
        ]
  ]

-- Nothing is left of grants whose ids all go.
none-left : (set : ℕ → Bool) (gs : List Grant)
    → ((id : ℕ) (r : Rectangle)
    → option_map rectangle_of (option_map (λ g. g.box) (find (λ g. g.id == id) gs)) ≡ Some r → set id ≡ true)
    → filter (λ g. not (set g.id)) gs ≡ []
none-left set [] all = refl
none-left set (g ∷ gs) all =
    let own = eq-eqb g.id g.id refl in
    let head : set g.id ≡ true = all g.id (rectangle_of g.box) (rw own refl) in
    rw head (none-left set gs rest)
  where
    rest : (id : ℕ) (r : Rectangle)
        → option_map rectangle_of (option_map (λ g. g.box) (find (λ g. g.id == id) gs)) ≡ Some r → set id ≡ true
    rest id r is = elim (eqb_tells g.id id) [
      | inl same ↦ all id (rectangle_of g.box) (rw same.0 refl)
      | inr other ↦ all id r (rw other.0 is)
    ]

-- Where all that is live on an atlas goes, what fits the whole of it has room.
emptied : (s : State) (set : ℕ → Bool) (r : Sides) → IsSound s → filter (λ g. not (set g.id)) (live_in s) ≡ [] → IsPositive r
    → Fits (rounded s.options r) s.size → HasRoom (free_in (after_freeing s set)) s.options r
emptied s set r sound none positive fits =
    let left = release_keeps s.size set s.tree sound.well_formed in
    let one = nothing_live s.size (release set s.tree) left.well_formed left.normal (left.live ∙ none) in
    record {
      positive = positive;
      box = whole_box s.size;
      fitting = record {
        is_free = rw one.1 (Contains-first (whole_box s.size) []);
        fits = (omega (arith, fits.0), omega (arith, fits.1));
      };
    }

module _ {K : Type 0} where
  -- Where nothing is in use, some page has room in the end.
  pub has-room : (size : Size) (s : CacheState K) → AreUsable s.options → CanStand s.options size
      → HoldsEntries s.pages (lying s.entries) → KeepsRooms (rooms_of s.options s.pages) → IsNoneInUse s
      → IsExhausted (size_of (bordered s.options size)) s → ⊥
  has-room size s usable stands held kept unused done =
      let one = usable.pages in
      let all = done.full.all in
      let there = done.full.largest 0 (omega (arith, length-map s.pages size_of_page, one, all)) in
      let it = page_at s.pages 0 s.options.largest_page there in
      let own = kept.each 0 it.0 it.1 in
      let sides : (state_of it.0).size ≡ sides_of s.options.largest_page = ap sides_of it.2 in
      done.crowded 0 it.0 it.1
      (emptied (state_of it.0) (idle_on s.frame 0 s.entries) (bordered s.options size) own.sound
      (none-left (idle_on s.frame 0 s.entries) (live_in (state_of it.0)) (goes it.0 it.1))
      (omega (arith, stands.positive.0), omega (arith, stands.positive.1))
      (subst (λ (k : Options). Fits (rounded k (bordered s.options size)) (state_of it.0).size) (sym own.options)
      (subst (Fits (rounded (options_of s.options.atlas) (bordered s.options size))) (sym sides)
      (stands.width, stands.height))))
    where
      goes : (v : AtlasValue) → slice_get s.pages 0 ≡ Some v → (id : ℕ) (r : Rectangle)
          → option_map rectangle_of (option_map (λ g. g.box) (find (λ g. g.id == id) (live_in (state_of v)))) ≡ Some r
          → idle_on s.frame 0 s.entries id ≡ true
      goes v is id r found = held-idle s.frame 0 id s.entries unused (held.known 0 id r (rw is found))

  -- So the changes of a frame that had used nothing don't end without room.
  pub never-without : (asked size : Size) (made : List (CacheChange K)) (now t v s : CacheState K)
      → Leads asked made now t
      → IsNoneInUse now → v ≡ t → IsExhausted asked v → s ≡ v → t.options ≡ now.options → CanStand now.options size
      → asked ≡ size_of (bordered now.options size) → AreUsable s.options → HoldsEntries s.pages (lying s.entries)
      → KeepsRooms (rooms_of s.options s.pages) → ⊥
  never-without asked size made now t v s leads none v_t done s_v options stands is usable held kept =
      let s_t = s_v ∙ v_t in
      let same = is ∙ ap (λ (o : CacheOptions). size_of (bordered o size)) (sym options) in
      has-room size t (subst (λ (u : CacheState K). AreUsable u.options) s_t usable)
      (subst (λ (o : CacheOptions). CanStand o size) (sym options) stands)
      (subst (λ (u : CacheState K). HoldsEntries u.pages (lying u.entries)) s_t held)
      (subst (λ (u : CacheState K). KeepsRooms (rooms_of u.options u.pages)) s_t kept)
      (led-unused asked made now t leads none)
      (subst (λ (a : Size). IsExhausted a t) same (subst (λ (u : CacheState K). IsExhausted asked u) v_t done))
