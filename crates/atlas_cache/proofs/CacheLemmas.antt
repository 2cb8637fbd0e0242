-- What a cache keeps, step by step.
use Rattle.std.proofs.Common.{ℕ, ℤ, ◌≡◌, inl, inr, false, ◌≤◌, List, ◌∷◌, ◌++◌, length, None, Some, IsSome, refl, sym, ◌∙◌, arith}
use Rattle.std.proofs.lemmas.{Bool.{cases_Bool}}
use Rattle.std.proofs.lemmas.Bool.{false≢true}
use Rattle.guillotiere.specs.declared.Size.{Size}
use Rattle.guillotiere.specs.Pages.{rectangle_on, LeavesNoBoxOn}
use Rattle.guillotiere.specs.Pixels.{size_of}
use Rattle.guillotiere.specs.Stored.{AtlasValue}
use Rattle.guillotiere.proofs.Callers.{no_rectangle_off}
use Rattle.atlas_entries.specs.declared.entries.Entry.{Entry}
use Rattle.atlas_cache.specs.declared.options.CacheOptions.{CacheOptions}
use Rattle.atlas_cache.specs.Asking.{bordered, AreUsable, CanStand}
use Rattle.atlas_cache.specs.Caches.{entries_of, AreBordered, FramesFall, HoldsEntries, IsBordered}
use Rattle.atlas_entries.specs.Entries.{entry_at, is_blank, lying, touched, without_number, IsNumber}
use Rattle.atlas_cache.specs.Rooms.{IsAtLeast}
use Rattle.atlas_cache.proofs.BlankLemmas.{parts-blank, parts-lying}
use Rattle.atlas_cache.proofs.HoldingLemmas.{left, to_front, used_at}
use Rattle.atlas_entries.proofs.AppendedLists.{each-here, each-without}
use Rattle.atlas_cache.proofs.ListLemmas.{falls-without, parts, Parts}

module _ {K : Type 0} where
  -- What a cache keeps, of its parts.
  pub record Keeps (pages : List AtlasValue) (padding : ℤ) (frame : ℕ) (es : List (Entry K)) : Type 0 where
    pub held : HoldsEntries pages (lying es)
    pub bordered : AreBordered padding es
    pub frames : FramesFall frame es

  pub touched-is : (n frame : ℕ) (es : List (ℕ × Entry K)) (e : Entry K) → entry_at n es ≡ Some e
      → entries_of (touched n frame es) ≡ record e { frame = frame } ∷ entries_of (without_number n es)
  touched-is n frame es e at = rw at refl

  pub number-at : (n : ℕ) (es : List (ℕ × Entry K)) (e : Entry K) → entry_at n es ≡ Some e → IsNumber n es
  number-at n es e at = rw at refl

  pub bordered-at : (padding : ℤ) (n : ℕ) (es : List (ℕ × Entry K)) (e : Entry K) → AreBordered padding (entries_of es)
      → entry_at n es ≡ Some e → IsBordered padding e
  bordered-at padding n es e all at =
      let p = parts n es e at in each-here (IsBordered padding) p.newer e p.older (rw p.was at all)

  module _ (pages : List AtlasValue) (padding : ℤ) (frame : ℕ) (e : Entry K) (es rest : List (Entry K)) (p : Parts e es rest) where
    used_held : HoldsEntries pages (lying es) → HoldsEntries pages (lying (record e { frame = frame } ∷ rest))
    used_held held = elim (cases_Bool (is_blank e)) [
      | inl blank ↦ rw (blank, ← parts-blank e es rest blank p) held
      | inr lies ↦
          let q = parts-lying e es rest lies p in
          rw (lies, q.rests) (used_at pages frame e (q.newer ++ q.older) (to_front pages q.newer e q.older (rw q.was at held)))
    ]

    pub used : HoldsEntries pages (lying es) → AreBordered padding es → FramesFall frame es
        → Keeps pages padding frame (record e { frame = frame } ∷ rest)
    used held bordered frames =
        let falls = falls-without frame p.newer e p.older (rw p.was at frames) in
        let own = each-here (IsBordered padding) p.newer e p.older (rw p.was at bordered) in
        record {
          held = used_held held;
          bordered = (
            record { large = own.large; empty = own.empty },
            rw p.rests (each-without (IsBordered padding) p.newer e p.older (rw p.was at bordered)),
          );
          frames = (omega arith, rw p.rests falls);
        }

    pub rest_bordered : AreBordered padding es → AreBordered padding rest
    rest_bordered bordered = rw p.rests (each-without (IsBordered padding) p.newer e p.older (rw p.was at bordered))

    pub rest_falls : FramesFall frame es → FramesFall frame rest
    rest_falls frames = rw p.rests (falls-without frame p.newer e p.older (rw p.was at frames))

    pub rest_held : (new : List AtlasValue) → HoldsEntries pages (lying es) → is_blank e ≡ false
        → LeavesNoBoxOn pages new e.page e.id
        → HoldsEntries new (lying rest)
    rest_held new held lies leaves =
        let q = parts-lying e es rest lies p in
        rw q.rests (left pages new e leaves (q.newer ++ q.older) (to_front pages q.newer e q.older (rw q.was at held)))

    -- Without an entry that lies on no page the others hold what they held.
    pub rest_off : HoldsEntries pages (lying es) → length pages ≤ e.page → HoldsEntries pages (lying rest)
    rest_off held past = elim (cases_Bool (is_blank e)) [
      | inl blank ↦ rw (← parts-blank e es rest blank p) held
      | inr lies ↦
          let q = parts-lying e es rest lies p in
          let live : rectangle_on pages e.page e.id ≡ Some e.rectangle =
          each-here (λ (f : Entry K). rectangle_on pages f.page f.id ≡ Some f.rectangle) q.newer e q.older (rw q.was at held.live) in
          absurd (let some : None ≡ Some e.rectangle = sym (no_rectangle_off pages e.page e.id past) ∙ live in cc)
    ]

  pub live-at : (pages : List AtlasValue) (n : ℕ) (es : List (ℕ × Entry K)) (e : Entry K)
      → HoldsEntries pages (lying (entries_of es)) → entry_at n es ≡ Some e → is_blank e ≡ false
      → rectangle_on pages e.page e.id ≡ Some e.rectangle
  live-at pages n es e held at lies =
      let p = parts-lying e (entries_of es) (entries_of (without_number n es)) lies (parts n es e at) in
      each-here (λ (f : Entry K). rectangle_on pages f.page f.id ≡ Some f.rectangle) p.newer e p.older (rw p.was at held.live)

  pub rectangle-live : (pages : List AtlasValue) (n : ℕ) (es : List (ℕ × Entry K)) (e : Entry K)
      → HoldsEntries pages (lying (entries_of es)) → entry_at n es ≡ Some e → is_blank e ≡ false
      → IsSome (rectangle_on pages e.page e.id)
  rectangle-live pages n es e held at lies = rw (live-at pages n es e held at lies) refl

  -- What an entry was granted is at least as large as it is with its padding.
  pub is_bordered : (o : CacheOptions) (asked size : Size) (e : Entry K) → AreUsable o → CanStand o size
      → asked ≡ size_of (bordered o size) → IsAtLeast asked e.rectangle → e.size ≡ size → is_blank e ≡ false
      → IsBordered o.padding e
  is_bordered o asked size e usable stands is large sized lies =
      let large_too = rw is at large in
      record {
        large = λ _. rw sized (record {
          exact = large_too.exact;
          least = usable.padding;
          positive = stands.positive;
          wide = large_too.wide;
          high = large_too.high;
        });
        empty = λ blank. absurd (false≢true (sym lies ∙ blank));
      }
