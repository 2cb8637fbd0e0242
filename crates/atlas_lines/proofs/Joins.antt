-- How the steps of a run join.
use Rattle.std.proofs.Common.{◌≡◌, ℕ, ◌+◌, ◌<◌, ◌≤◌, ◌≢◌, inl, inr, List, [], ◌∷◌, ◌++◌, length, get_or, take, drop, Option, Some, None}
use Rattle.std.proofs.Common.{Result, Ok, Err, refl, sym, ap, ◌∙◌, subst, arith, append_assoc, append-nil, length-append}
use Rattle.std.proofs.lemmas.List.{take_more, take-append-drop}
use Rattle.std.specs.List.{AllByRecursion}
use Rattle.std.specs.Io.KnownBytes.{Appends}
use Rattle.atlas_lines.specs.declared.run.ToolEnd.{ToolEnd}
use Rattle.atlas_lines.specs.declared.run.ToolEnd.TheVariants.{Done, BadLine, Limit}
use Rattle.atlas_lines.specs.declared.run.ToolFault.{ToolFault}
use Rattle.atlas_lines.specs.declared.run.ToolFault.TheVariants.{Read, Write}
use Rattle.atlas_words.specs.Blocks.{IsGathered}
use Rattle.atlas_words.specs.Devices.{WritesBeginning}
use Rattle.atlas_words.specs.Lines.{HasNoEnd, ended, all_ended}
use Rattle.atlas_lines.specs.Machine.{ToolState}
use Rattle.atlas_lines.specs.Replies.{bad_line_text}
use Rattle.atlas_lines.specs.Texts.{IsBadLine, LineOwes, OwesText}
use Rattle.atlas_lines.specs.Progress.{Place, state_at, Advances, IsCertainlyBad, MeetsBadLine, OwesBeginning, Stops, Continues, EndsBadly}
use Rattle.atlas_lines.specs.Progress.{EndsInReply, RepliesTo, LineEnds}
use Rattle.atlas_words.proofs.Blocks.{gathered_begins, gathered_begun, gathered_appends, gathered_written, gathered_twice, gathered_nothing}

pub all_ended_twice : (xs ys : List (List ℕ)) → all_ended (xs ++ ys) ≡ all_ended xs ++ all_ended ys
all_ended_twice [] ys = refl
all_ended_twice (x ∷ xs) ys = ap (λ t. ended x ++ t) (all_ended_twice xs ys) ∙ sym (append_assoc (ended x) (all_ended xs) (all_ended ys))

pub each_twice : {A : Type 0} (P : A → Type 0) (xs ys : List A) → AllByRecursion P xs → AllByRecursion P ys
    → AllByRecursion P (xs ++ ys)
each_twice P [] ys a b = b
each_twice P (x ∷ xs) ys a b = (a.0, each_twice P xs ys a.1 b)

pub owes_twice : (old middle new : ToolState) (xs ys : List (List ℕ)) (s t : List ℕ) → OwesText old xs s middle
    → OwesText middle ys t new → OwesText old (xs ++ ys) (s ++ t) new
owes_twice old middle new [] ys s t a b =
    let P : ToolState → List ℕ → Type 0 = λ state text. OwesText state ys text new in
    subst (λ state. P state (s ++ t)) a.1 (subst (P middle) (sym (ap (λ u. u ++ t) a.0)) b)
owes_twice old middle new (x ∷ xs) ys s t a b =
    (a.0, a.1, a.2 ++ t, a.3, owes_twice a.0 middle new xs ys a.2 t a.4 b, ap (λ u. u ++ t) a.5 ∙ append_assoc a.1 a.2 t)

-- What follows whole lines and the line that has begun.
regroup : (l x y p q all_first all_second rest : List ℕ) → l ++ x ≡ all_first ++ p → p ++ y ≡ all_second ++ rest
    → l ++ (x ++ y) ≡ (all_first ++ all_second) ++ rest
regroup l x y p q f s rest a b = sym (append_assoc l x y) ∙ ap (λ u. u ++ y) a ∙ append_assoc f p y ∙ ap (λ u. f ++ u) b ∙
    sym (append_assoc f s rest)

whole_twice : (l x y p : List ℕ) (first second : List (List ℕ)) (rest : List ℕ) → l ++ x ≡ all_ended first ++ p
    → p ++ y ≡ all_ended second ++ rest
    → l ++ (x ++ y) ≡ all_ended (first ++ second) ++ rest
whole_twice l x y p first second rest a b =
    regroup l x y p p (all_ended first) (all_ended second) rest a b ∙ ap (λ u. u ++ rest) (sym (all_ended_twice first second))

pub advance_none : (place : Place) → Advances place [] [] place
advance_none place = record { lines = []; whole = append-nil place.line; each = tt; number = omega arith; owed = (refl, refl) }

pub advance_twice : (a b c : Place) (x y s t : List ℕ) → Advances a x s b → Advances b y t c
    → Advances a (x ++ y) (s ++ t) c
advance_twice a b c x y s t f g = record {
  lines = f.lines ++ g.lines;
  whole = whole_twice a.line x y b.line f.lines g.lines c.line f.whole g.whole;
  each = each_twice HasNoEnd f.lines g.lines f.each g.each;
  number = omega (arith, f.number, g.number, length-append f.lines g.lines);
  owed = owes_twice (state_at a) (state_at b) (state_at c) f.lines g.lines s t f.owed g.owed;
}

pub meets_after : (a b : Place) (x y s t : List ℕ) (n : ℕ) → Advances a x s b → MeetsBadLine b y n t
    → MeetsBadLine a (x ++ y) n (s ++ t)
meets_after a b x y s t n f m = record {
  lines = f.lines ++ m.lines;
  bad = m.bad;
  after = m.after;
  before = s ++ m.before;
  state = m.state;
  whole = whole_twice a.line x y b.line f.lines m.lines (m.bad ++ m.after) f.whole m.whole;
  each = each_twice HasNoEnd f.lines m.lines f.each m.each;
  no_end = m.no_end;
  certain = m.certain;
  number_is = omega (arith, m.number_is, f.number, length-append f.lines m.lines);
  owed = owes_twice (state_at a) (state_at b) m.state f.lines m.lines s m.before f.owed m.owed;
  text_is = ap (λ u. s ++ u) m.text_is ∙ sym (append_assoc s m.before (bad_line_text n));
}

certain_more : (line after more : List ℕ) → IsCertainlyBad line after → IsCertainlyBad line (after ++ more)
certain_more line after more (inl long) = inl long
certain_more line after more (inr bad) = inr (bad.0, bad.1 ++ more, ap (λ u. u ++ more) bad.2)

pub meets_more : (a : Place) (x y t : List ℕ) (n : ℕ) → MeetsBadLine a x n t → MeetsBadLine a (x ++ y) n t
meets_more a x y t n m = record {
  lines = m.lines;
  bad = m.bad;
  after = m.after ++ y;
  before = m.before;
  state = m.state;
  whole = sym (append_assoc a.line x y) ∙ ap (λ u. u ++ y) m.whole ∙ append_assoc (all_ended m.lines) (m.bad ++ m.after) y ∙
      ap (λ u. all_ended m.lines ++ u) (append_assoc m.bad m.after y);
  each = m.each;
  no_end = m.no_end;
  certain = certain_more m.bad m.after y m.certain;
  number_is = m.number_is;
  owed = m.owed;
  text_is = m.text_is;
}

owes_after : (a b : Place) (x y s t : List ℕ) → Advances a x s b → OwesBeginning b y t
    → OwesBeginning a (x ++ y) (s ++ t)
owes_after a b x y s t f o = record {
  first = x ++ o.first;
  later = o.later;
  new = o.new;
  whole = ap (λ u. x ++ u) o.whole ∙ sym (append_assoc x o.first o.later);
  advances = advance_twice a b o.new x o.first s t f o.advances;
}

owes_more : (a : Place) (x y t : List ℕ) → OwesBeginning a x t → OwesBeginning a (x ++ y) t
owes_more a x y t o = record {
  first = o.first;
  later = o.later ++ y;
  new = o.new;
  whole = ap (λ u. u ++ y) o.whole ∙ append_assoc o.first o.later y;
  advances = o.advances;
}

-- The run ended among the bytes that came next.
pub stops_after : (end : Result ToolEnd ToolFault) (a b : Place) (x y s : List ℕ) (o p q : Option (List ℕ))
    (before middle : List ℕ)
    → Advances a x s b → IsGathered o p middle (before ++ s)
    → Stops end b y p q middle → Stops end a (x ++ y) o q before
stops_after (Ok (BadLine n)) a b x y s o p q before middle f w e = (
  s ++ e.0,
  meets_after a b x y s e.0 n f e.1,
  (
      let P : List ℕ → Type 0 = λ t. Appends o q t in
      subst P (append_assoc before s e.0) (gathered_appends o p q middle (before ++ s) e.0 w e.2)
      ),
)
stops_after (Err Write) a b x y s o p q before middle f w e = (
  s ++ e.0,
  elim e.1 [ inl owes ↦ inl (owes_after a b x y s e.0 f owes) | inr meets ↦ inr (meets.0, meets_after a b x y s e.0 meets.0 f meets.1) ],
  (
      let P : List ℕ → Type 0 = λ t. WritesBeginning o q t in
      subst P (append_assoc before s e.0) (gathered_begins o p q middle (before ++ s) e.0 (middle ++ e.0) w refl e.2)
      ),
)
stops_after (Ok Done) a b x y s o p q before middle f w e = absurd e
stops_after (Ok Limit) a b x y s o p q before middle f w e = absurd e
stops_after (Err Read) a b x y s o p q before middle f w e = absurd e

-- The run ended before more bytes.
pub stops_before : (end : Result ToolEnd ToolFault) (a : Place) (x y : List ℕ) (o q : Option (List ℕ)) (before : List ℕ)
    → Stops end a x o q before → Stops end a (x ++ y) o q before
stops_before (Ok (BadLine n)) a x y o q before e = (e.0, meets_more a x y e.0 n e.1, e.2)
stops_before (Err Write) a x y o q before e =
    (e.0, elim e.1 [ inl owes ↦ inl (owes_more a x y e.0 owes) | inr meets ↦ inr (meets.0, meets_more a x y e.0 meets.0 meets.1) ], e.2)
stops_before (Ok Done) a x y o q before e = absurd e
stops_before (Ok Limit) a x y o q before e = absurd e
stops_before (Err Read) a x y o q before e = absurd e

-- ---- one line

advances_by_line : (old new : Place) (text : List ℕ) → HasNoEnd old.line
    → LineOwes (state_at old) old.line text (state_at new) → new.line ≡ [] → new.number ≡ old.number + 1
    → Advances old (10 ∷ []) text new
advances_by_line old new text no_end owed line number = record {
  lines = old.line ∷ [];
  whole = sym (append-nil (ended old.line)) ∙ sym (append-nil (ended old.line ++ [])) ∙ ap (λ u. (ended old.line ++ []) ++ u) (sym line);
  each = (no_end, tt);
  number = number;
  owed = (state_at new, text, [], owed, (refl, refl), sym (append-nil text));
}

bad_whole : (old : Place) (n : ℕ) → HasNoEnd old.line → IsBadLine old.line → n ≡ old.number + 1
    → MeetsBadLine old (10 ∷ []) n (bad_line_text n)
bad_whole old n no_end bad number = record {
  lines = [];
  bad = old.line;
  after = 10 ∷ [];
  before = [];
  state = state_at old;
  whole = refl;
  each = tt;
  no_end = no_end;
  certain = inr (bad, [], refl);
  number_is = omega (arith, number);
  owed = (refl, refl);
  text_is = refl;
}

-- A line and its LF.
line_stops : (end : Result ToolEnd ToolFault) (old new : Place) (o q : Option (List ℕ)) (before after : List ℕ)
    → HasNoEnd old.line → LineEnds (Some end) old new o q before after
    → Stops end old (10 ∷ []) o q before
line_stops (Ok (BadLine n)) old new o q before after h (inl bad) = (bad_line_text n, bad_whole old n h bad.0 bad.1.0, bad.1.1)
line_stops (Ok (BadLine n)) old new o q before after h (inr reply) = absurd (let e = reply.0 in cc)
line_stops (Ok Done) old new o q before after h (inl bad) = absurd bad.1
line_stops (Ok Done) old new o q before after h (inr reply) = absurd (let e = reply.0 in cc)
line_stops (Ok Limit) old new o q before after h (inl bad) = absurd bad.1
line_stops (Ok Limit) old new o q before after h (inr reply) = absurd (let e = reply.0 in cc)
line_stops (Err Read) old new o q before after h (inl bad) = absurd bad.1
line_stops (Err Read) old new o q before after h (inr reply) = absurd (let e = reply.0 in cc)
line_stops (Err Write) old new o q before after h (inl bad) =
    (bad_line_text (old.number + 1), inr (old.number + 1, bad_whole old (old.number + 1) h bad.0 refl), bad.1)
line_stops (Err Write) old new o q before after h (inr reply) =
    let next : Place = record { held = reply.1.held; line = []; number = old.number + 1 } in (
      reply.1.text,
      inl (record {
        first = 10 ∷ [];
        later = [];
        new = next;
        whole = refl;
        advances =
            advances_by_line old next reply.1.text h reply.1.owed refl refl;
      }),
      reply.1.written,
    )

pub line_continues : (end : Option (Result ToolEnd ToolFault)) (old new : Place) (byte : ℕ) (o q : Option (List ℕ))
    (before after : List ℕ)
    → byte ≡ 10 → HasNoEnd old.line
    → LineEnds end old new o q before after → Continues end old (byte ∷ []) new o q before after
line_continues None old new byte o q before after e h r =
    let P : ℕ → Type 0 = λ b. Continues None old (b ∷ []) new o q before after in
    subst P (sym e) (r.text, advances_by_line old new r.text h r.owed r.line r.number, r.gathered)
line_continues (Some end) old new byte o q before after e h r =
    let P : ℕ → Type 0 = λ b. Stops end old (b ∷ []) o q before in
    subst P (sym e) (line_stops end old new o q before after h r)

bad_long : (old : Place) (byte n : ℕ) → byte ≢ 10 → HasNoEnd old.line → 120 ≤ length old.line → n ≡ old.number + 1
    → MeetsBadLine old (byte ∷ []) n (bad_line_text n)
bad_long old byte n other no_end long number = record {
  lines = [];
  bad = old.line ++ byte ∷ [];
  after = [];
  before = [];
  state = state_at old;
  whole = sym (append-nil (old.line ++ byte ∷ []));
  each = tt;
  no_end = each_twice (λ b. b ≢ 10) old.line (byte ∷ []) no_end (other, tt);
  certain = inl (omega (arith, length-append old.line (byte ∷ [])));
  number_is = omega (arith, number);
  owed = (refl, refl);
  text_is = refl;
}

-- The byte that makes a line too long.
pub long_stops : (end : Result ToolEnd ToolFault) (old : Place) (byte : ℕ) (o q : Option (List ℕ)) (before : List ℕ)
    → byte ≢ 10 → HasNoEnd old.line → 120 ≤ length old.line
    → EndsBadly end old o q before → Stops end old (byte ∷ []) o q before
long_stops (Ok (BadLine n)) old byte o q before other h long e = (bad_line_text n, bad_long old byte n other h long e.0, e.1)
long_stops (Err Write) old byte o q before other h long e = (
  bad_line_text (old.number + 1),
  inr (old.number + 1, bad_long old byte (old.number + 1) other h long refl),
  e,
)
long_stops (Ok Done) old byte o q before other h long e = absurd e
long_stops (Ok Limit) old byte o q before other h long e = absurd e
long_stops (Err Read) old byte o q before other h long e = absurd e

-- One more byte of a block.
pub block_advances : (a b c : Place) (block : List ℕ) (i : ℕ) (s : List ℕ) (o p q : Option (List ℕ))
    (before middle after : List ℕ)
    → i < length block → Advances a (take i block) s b
    → IsGathered o p middle (before ++ s)
    → (t : List ℕ) × Advances b (get_or block i 0 ∷ []) t c × IsGathered p q after (middle ++ t)
    → (u : List ℕ) × Advances a (take (i + 1) block) u c × IsGathered o q after (before ++ u)
block_advances a b c block i s o p q before middle after h f w step =
    let P : List ℕ → Type 0 = λ bytes. Advances a bytes (s ++ step.0) c in
    let Q : List ℕ → Type 0 = λ text. IsGathered o q after text in (
      s ++ step.0,
      subst P (sym (take_more block i 0 h)) (advance_twice a b c (take i block) (get_or block i 0 ∷ []) s step.0 f step.1),
      subst Q (append_assoc before s step.0) (gathered_twice o p q middle after (before ++ s) step.0 w step.2),
    )

pub block_stops : (end : Result ToolEnd ToolFault) (a b : Place) (block : List ℕ) (i : ℕ) (s : List ℕ)
    (o p q : Option (List ℕ)) (before middle : List ℕ)
    → i < length block
    → Advances a (take i block) s b → IsGathered o p middle (before ++ s)
    → Stops end b (get_or block i 0 ∷ []) p q middle → Stops end a block o q before
block_stops end a b block i s o p q before middle h f w step =
    let P : List ℕ → Type 0 = λ bytes. Stops end a bytes o q before in
    let parts : take (i + 1) block ++ drop (i + 1) block ≡ block = take-append-drop (i + 1) block in
    subst P parts (stops_before end a (take (i + 1) block) (drop (i + 1) block) o q before
    (subst P (sym (take_more block i 0 h)) (stops_after end a b (take i block) (get_or block i 0 ∷ []) s o p q before middle f w step)))

-- A byte that goes on with the line.
pub byte_continues : (inside old : Place) (byte : ℕ) (line : List ℕ) (o : Option (List ℕ)) (before : List ℕ)
    → inside ≡ old → line ≡ inside.line ++ byte ∷ []
    → Continues None old (byte ∷ []) (record { held = inside.held; line = line; number = inside.number }) o o before before
byte_continues inside old byte line o before e f = (
  [],
  record {
    lines = [];
    whole = ap (λ (p : Place). p.line ++ byte ∷ []) (sym e) ∙ sym f;
    each = tt;
    number = (let n : inside.number ≡ old.number = ap (λ (p : Place). p.number) e in omega arith);
    owed = (refl, ap (λ (p : Place). state_at p) e);
  },
  gathered_nothing o before,
)

-- ---- writing what waits

-- What waited was written, and then nothing waits.
pub line_written : (old new : Place) (o p q : Option (List ℕ)) (before middle : List ℕ)
    → RepliesTo old new o p before middle → Appends p q middle → RepliesTo old new o q before []
line_written old new o p q before middle r w =
    record {
      text = r.text;
      owed = r.owed;
      gathered = gathered_written o p q middle (before ++ r.text) r.gathered w;
      line = r.line;
      number =
          r.number;
    }

pub line_begun : (old new : Place) (o p q : Option (List ℕ)) (before middle : List ℕ)
    → RepliesTo old new o p before middle → WritesBeginning p q middle → EndsInReply old o q before
line_begun old new o p q before middle r w =
    record { held = new.held; text = r.text; owed = r.owed; written = gathered_begun o p q middle (before ++ r.text) r.gathered w }

pub bytes_written : (old new : Place) (bytes : List ℕ) (o p q : Option (List ℕ)) (before middle : List ℕ)
    → Continues None old bytes new o p before middle → Appends p q middle
    → Continues None old bytes new o q before []
bytes_written old new bytes o p q before middle c w = (c.0, c.1, gathered_written o p q middle (before ++ c.0) c.2 w)

pub bytes_begun : (old new : Place) (bytes : List ℕ) (o p q : Option (List ℕ)) (before middle : List ℕ)
    → Continues None old bytes new o p before middle → WritesBeginning p q middle
    → Stops (Err Write) old bytes o q before
bytes_begun old new bytes o p q before middle c w = (
  c.0,
  inl (record { first = bytes; later = []; new = new; whole = sym (append-nil bytes); advances = c.1 }),
  gathered_begun o p q middle (before ++ c.0) c.2 w,
)
