-- What an insert leaves in reserve.
use Rattle.std.proofs.Common.{ℕ, ◌≡◌, ◌≢◌, ◌+◌, ◌-◌, ◌*◌, ◌<◌, ◌≤◌, ◌∙◌, List, length, length-append, Result, Ok, Err, OnOk, sym, ap, arith}
use Rattle.std.proofs.Common.{inl, inr}
use Rattle.std.proofs.lemmas.Bool.{cases_lt}
use Rattle.guillotiere.specs.declared.Size.{Size}
use Rattle.atlas_cache.specs.declared.changes.CacheChange.{CacheChange}
use Rattle.atlas_entries.specs.declared.error.CacheError.{CacheError}
use Rattle.atlas_entries.specs.declared.error.CacheError.TheVariants.{Memory, Slots}
use Rattle.atlas_cache.specs.declared.inserted.Inserted.{Inserted}
use Rattle.atlas_cache.specs.declared.inserted.Inserted.TheVariants.{Placed, Held, FrameFull, NeverFits}
use Rattle.atlas_cache.specs.declared.options.CacheOptions.{CacheOptions}
use Rattle.guillotiere.specs.Pages.{page_sizes}
use Rattle.guillotiere.specs.Stored.{AtlasValue}
use Rattle.atlas_cache.specs.Caches.{CacheState, IsFull}
use Rattle.atlas_cache.specs.Changes.{InsertsBlank}
use Rattle.atlas_cache.specs.Clearing.{Trims}
use Rattle.atlas_entries.specs.Limits.{IsWithoutNumber}
use Rattle.atlas_cache.specs.Reserving.{ready_inserts, AllowSlots, HasReserves, HaveSlots, IsReadyFor, IsShortOfSlots, KeepsPageSizes}
use Rattle.atlas_cache.specs.Reserving.{KeepsReady, KeepsReadyButOne, UseAtMost}
use Rattle.atlas_cache.proofs.RoomLemmas.KeptPages.{as_many}
use Rattle.atlas_cache.proofs.RoomLemmas.PageReserves.{allowed_left, none_short, none_used, slots_left}
use Rattle.atlas_cache.proofs.RoomLemmas.ReadySlots.{allow_ready, have_ready, most_ready, ready_had, ready_left}

-- What an error is that is passed on.
pub error_is : {X : Type 0} {kind : CacheError} (error : CacheError) (result : Result X CacheError) → result ≡ Err error
    → result ≡ Err kind → error ≡ kind
error_is error result is told = let same = sym is ∙ told in cc

-- No page is short of slots where an entry gets no number.
pub not_short : (n : ℕ) (error : CacheError) → IsWithoutNumber n error → error ≡ Slots → ⊥
not_short n error (inl memory) slots = let same = sym memory ∙ slots in cc
not_short n error (inr numbers) slots = let same = sym numbers.0 ∙ slots in cc

-- A call that uses at most 4 slots of a page, and is refused for want of them only where a page was short of them, isn't so refused while
-- each page may use 4 more.
pub allowed_after : {X : Type 0} (result : Result X CacheError) (old new : List AtlasValue) → UseAtMost 4 old new
    → (result ≡ Err Slots → IsShortOfSlots old) → (n : ℕ) → AllowSlots (4 * (n + 1)) old
    → (result ≢ Err Slots) × AllowSlots (4 * n) new
allowed_after result old new uses short n allow = (
  λ is. none_short 4 (4 * (n + 1)) old (omega arith) allow (short is),
  allowed_left 4 (4 * n) (4 * (n + 1)) old new (omega arith) uses allow,
)

module _ {K : Type 0} where
  -- Where the sizes and the options stay, every page is there and at its largest still.
  pub full_stays : (s t : CacheState K) → t.options ≡ s.options → page_sizes t.pages ≡ page_sizes s.pages → IsFull s
      → IsFull t
  full_stays s t options sizes full = record {
    all = as_many s.pages t.pages sizes ∙ full.all ∙ ap (λ (o : CacheOptions). o.pages) (sym options);
    largest = rw (options, sizes) full.largest;
  }

  -- What is left after a step that takes one entry at most, 4 slots of a page, and room for one change more than entries go.
  pub reserves_left : (n k room left uses : ℕ) (s t : CacheState K) → UseAtMost uses s.pages t.pages
      → 4 * n + uses ≤ 4 * k
      → n + s.reserved ≤ k + t.reserved → length t.entries + n + room ≤ length s.entries + k + left
      → HasReserves k room s → HasReserves n left t
  reserves_left n k room left uses s t slots most entries changes had = record {
    entries = omega (arith, entries, had.entries);
    slots = slots_left uses (4 * n) (4 * k) s.pages t.pages most slots had.slots;
    changes = omega (arith, changes, had.changes);
  }

  -- Where one more is had, this many are.
  pub one_fewer : (n room : ℕ) (s : CacheState K) → HasReserves (n + 1) room s → HasReserves n room s
  one_fewer n room s had =
      reserves_left n (n + 1) room room 4 s s (none_used 4 s.pages) (omega arith) (omega arith) (omega arith) had

  -- Where all is ready for n inserts, memory is there for them.
  reserves_ready : (n room : ℕ) (s : CacheState K) → 0 < n → n ≤ ready_inserts room s → HasReserves n room s
  unfolding ready_inserts
  reserves_ready n room s some most = record {
    entries = omega (arith, most);
    slots = have_ready (4 * n) s.pages (omega (arith, some)) (omega (arith, most));
    changes = omega (arith, some, most);
  }

  -- And each page may use their slots.
  allowed_ready : (n room : ℕ) (s : CacheState K) → 0 < n → n ≤ ready_inserts room s → AllowSlots (4 * n) s.pages
  unfolding ready_inserts
  allowed_ready n room s some most = allow_ready (4 * n) s.pages (omega (arith, some)) (omega (arith, most))

  -- Where memory is there for n inserts, and each page may use their slots, all is ready for them.
  inserts_ready : (n room : ℕ) (s : CacheState K) → 4 * n ≤ 4294967295 → HasReserves n room s → AllowSlots (4 * n) s.pages
      → n ≤ ready_inserts room s
  unfolding ready_inserts
  inserts_ready n room s few had allow =
      let slots = ready_had (4 * n) s.pages few had.slots allow in
      omega (arith, had.entries, had.changes, slots)

  few_ready : (room : ℕ) (s : CacheState K) → 4 * ready_inserts room s ≤ 4294967295
  unfolding ready_inserts
  few_ready room s = omega (arith, most_ready s.pages)

  ready_stays : (s t : CacheState K) → UseAtMost 0 s.pages t.pages → s.reserved ≤ t.reserved
      → length t.entries ≤ length s.entries → (room : ℕ) → ready_inserts room s ≤ ready_inserts room t
  unfolding ready_inserts
  ready_stays s t slots entries changes room = omega (arith, ready_left 0 s.pages t.pages slots, entries, changes)

  -- What is ready stays so where it is used by no step.
  pub still_ready : (s t : CacheState K) → UseAtMost 0 s.pages t.pages → s.reserved ≤ t.reserved
      → length t.entries ≤ length s.entries → (IsFull s → IsFull t) → KeepsReady s t
  still_ready s t slots entries changes full = record { inserts = ready_stays s t slots entries changes; full = full }

  pub same_ready : (s : CacheState K) → KeepsReady s s
  same_ready s = still_ready s s (none_used 0 s.pages) (omega arith) (omega arith) (λ full. full)

  -- What goes unused takes nothing of it.
  pub trim_ready : (frames : ℕ) (before after : List (CacheChange K)) (s t : CacheState K) → Trims frames before after s t
      → KeepsReady s t
  trim_ready frames before after s t trims =
      still_ready s t trims.slots (omega (arith, trims.reserved))
      (omega (arith, ap length trims.was, length-append t.entries trims.gone)) (full_stays s t trims.options trims.sizes)

  -- What was taken before for some inserts is ready once their slots are there.
  pub ready_reserved : {X : Type 0} (result : Result X CacheError) (slots reserved held : ℕ) (t : CacheState K)
      → OnOk result (HaveSlots slots t.pages) → OnOk result (AllowSlots slots t.pages) → slots ≤ 4294967295
      → reserved ≡ t.reserved → held ≡ length t.entries
      → OnOk result ((n room : ℕ) → 4 * n ≤ slots → n ≤ reserved → held + n ≤ room → n ≤ ready_inserts room t)
  ready_reserved (Ok x) slots reserved held t have allow few is holds = λ n room enough some changes.
      let none = none_used 0 t.pages in
      inserts_ready n room t (omega (arith, few, enough)) (record {
        entries = omega (arith, some, is);
        slots = slots_left 0 (4 * n) slots t.pages t.pages (omega (arith, enough)) none have;
        changes = omega (arith, changes, holds);
      }) (allowed_left 0 (4 * n) slots t.pages t.pages (omega (arith, enough)) none allow)
  ready_reserved (Err error) slots reserved held t have allow few is holds = tt

  -- An insert that keeps what is in reserve, what the pages may use and their sizes.
  module _ {X : Type 0} (result : Result X CacheError) (size : Size) (room rest : ℕ) (s t : CacheState K)
      (reserves : (n : ℕ) → HasReserves (n + 1) room s → KeepsPageSizes size s → (result ≢ Err Memory) × HasReserves n rest t)
      (allowed : (n : ℕ) → AllowSlots (4 * (n + 1)) s.pages → KeepsPageSizes size s
      → (result ≢ Err Slots) × AllowSlots (4 * n) t.pages) where
    -- While all is ready for one more, it isn't refused for memory or for slots, and what it takes is that of one.
    one_served : (left : ℕ) → left < ready_inserts room s → IsFull s
        → ((result ≢ Err Memory) × HasReserves left rest t) × ((result ≢ Err Slots) × AllowSlots (4 * left) t.pages)
    one_served left less full =
        let keeps : KeepsPageSizes size s = λ positive none. full in
        let had = reserves_ready (left + 1) room s (omega arith) (omega (arith, less)) in
        let may = allowed_ready (left + 1) room s (omega arith) (omega (arith, less)) in
        (reserves left had keeps, allowed left may keeps)

    pub unrefused_while_ready : IsReadyFor 1 room s → (result ≢ Err Memory) × (result ≢ Err Slots)
    unrefused_while_ready ready =
        let served = one_served 0 (omega (arith, ready.inserts)) ready.full in (served.0.0, served.1.0)

    but_one : IsFull s → ready_inserts room s ≤ ready_inserts rest t + 1
    but_one full = elim (cases_lt 0 (ready_inserts room s)) [
      | inl some ↦
          let left = ready_inserts room s - 1 in
          let served = one_served left (omega (arith, some)) full in
          let now = inserts_ready left rest t (omega (arith, few_ready room s)) served.0.1 served.1.1 in
          omega (arith, now)
      | inr none ↦ omega (arith, none)
    ]

    pub ready_after : (IsFull s → IsFull t) → KeepsReadyButOne room rest s t
    ready_after full = record { inserts = but_one; full = full }

  -- A key of an empty size takes one entry at most, and nothing of the pages.
  pub blank_reserves : (key : K) (size : Size) (result : Result Inserted CacheError) (s t : CacheState K) (n room : ℕ)
      → InsertsBlank key size result s t → HasReserves (n + 1) room s → HasReserves n room t
  blank_reserves key size (Ok (Placed place)) s t n room ins had =
      reserves_left n (n + 1) room room 4 s t (rw ins.pages (none_used 4 s.pages)) (omega arith) (omega (arith, ins.reserved))
      (omega (arith, ap length ins.first)) had
  blank_reserves key size (Ok (Held place)) s t n room ins had = absurd ins
  blank_reserves key size (Ok FrameFull) s t n room ins had = absurd ins
  blank_reserves key size (Ok NeverFits) s t n room ins had = absurd ins
  blank_reserves key size (Err error) s t n room ins had = rw ins.0 (one_fewer n room s had)

  -- And it uses no slot.
  pub blank_uses : (key : K) (size : Size) (result : Result Inserted CacheError) (s t : CacheState K)
      → InsertsBlank key size result s t → UseAtMost 4 s.pages t.pages
  blank_uses key size (Ok (Placed place)) s t ins = rw ins.pages (none_used 4 s.pages)
  blank_uses key size (Ok (Held place)) s t ins = absurd ins
  blank_uses key size (Ok FrameFull) s t ins = absurd ins
  blank_uses key size (Ok NeverFits) s t ins = absurd ins
  blank_uses key size (Err error) s t ins = rw ins.0 (none_used 4 s.pages)

  -- And it changes no page.
  pub blank_full : (key : K) (size : Size) (result : Result Inserted CacheError) (s t : CacheState K)
      → InsertsBlank key size result s t → IsFull s → IsFull t
  blank_full key size (Ok (Placed place)) s t ins full = full_stays s t ins.options (ap page_sizes ins.pages) full
  blank_full key size (Ok (Held place)) s t ins full = absurd ins
  blank_full key size (Ok FrameFull) s t ins full = absurd ins
  blank_full key size (Ok NeverFits) s t ins full = absurd ins
  blank_full key size (Err error) s t ins full = rw ins.0 full

  -- What one insert asks for.
  pub one_reserved : (full len : ℕ) (s : CacheState K) → 0 < s.reserved → HaveSlots 4 s.pages
      → len + length s.entries < full
      → HasReserves (0 + 1) (full - len) s
  one_reserved full len s some slots room = record { entries = omega (arith, some); slots = slots; changes = omega (arith, room) }

  -- An insert of an empty size takes no slots.
  pub blank_not_short : (key : K) (size : Size) (result : Result Inserted CacheError) (s t : CacheState K)
      → InsertsBlank key size result s t → result ≡ Err Slots → ⊥
  blank_not_short key size (Ok x) s t inserts slots = cc
  blank_not_short key size (Err error) s t inserts slots =
      let same : error ≡ Slots = cc in not_short (length s.entries) error inserts.1 same
