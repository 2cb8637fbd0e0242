-- The steps of a run, and how they join.
use Rattle.std.proofs.Common.{◌≡◌, ℕ, ◌+◌, ◌<◌, ◌≤◌, inr, List, [], ◌∷◌, ◌++◌, length, Option, Some, None, refl, sym, ap, ◌∙◌, subst, arith}
use Rattle.std.proofs.Common.{ℤ, pos, negsuc, ◌≤ℤ◌, ◌⊎◌, inl}
use Rattle.std.proofs.lemmas.Int.{ints}
use Rattle.guillotiere.specs.declared.Size.{Size}
use Rattle.guillotiere.specs.Boxes.{IsPositive}
use Rattle.guillotiere.specs.Pixels.{natural, sides_of}
use Rattle.atlas_words.specs.Blocks.{IsGathered}
use Rattle.atlas_words.specs.declared.commands.Command.{Command}
use Rattle.atlas_words.specs.Grammar.{Spells}
use Rattle.atlas_lines.specs.Machine.{ToolReply, ToolState, ToolStep, Held, tool_state_of}
use Rattle.atlas_lines.specs.Progress.{Place, state_at, RepliesTo}
use Rattle.atlas_lines.specs.Replies.{reply_text}
use Rattle.atlas_words.proofs.Blocks.{gathered_nothing}
use Rattle.atlas_lines.specs.Texts.{IsBadLine, LineOwes}

-- A line that isn't empty and that the parser doesn't read is bad.
pub bad_unread : (line text : List ℕ) (read : Option Command) → text ≡ line → 0 < length line → read ≡ None
    → ((command : Command) → Spells command text → read ≡ Some command) → IsBadLine line
bad_unread line text read e some none only =
    inr (
      λ empty. omega (arith, ap length empty),
      λ command spells. let P : List ℕ → Type 0 = Spells command in let is = only command (subst P (sym e) spells) in absurd (cc),
    )

-- A step from what a place holds.
pub step_from : (inside place : Place) (command : Command) (reply : ToolReply) (new : ToolState) → inside ≡ place
    → ToolStep (state_at inside) command reply new → ToolStep (state_at place) command reply new
step_from inside place command reply new e step =
    let P : Place → Type 0 = λ p. ToolStep (state_at p) command reply new in
    subst P e step

-- What a command's line owes.
pub owed_by : (old new : ToolState) (line text : List ℕ) (command : Command) (reply : ToolReply) → text ≡ line
    → 0 < length line
    → Spells command text → ToolStep old command reply new → LineOwes old line (reply_text reply) new
owed_by old new [] text command reply e some spells step = absurd (omega arith)
owed_by old new (b ∷ bs) text command reply e some spells step =
    let P : List ℕ → Type 0 = Spells command in
    (command, reply, subst P e spells, step, refl)

-- The reply was given, and the next line begins.
pub replied : (old middle new : Place) (held : Held) (out_old out_sent out_new : Option (List ℕ))
    (before sent after text : List ℕ)
    → LineOwes (state_at old) old.line text (tool_state_of held)
    → IsGathered out_old out_sent sent (before ++ text) → out_new ≡ out_sent → after ≡ sent → middle ≡ record old { held = held }
    → new ≡ record { held = middle.held; line = []; number = middle.number + 1 } → RepliesTo old new out_old out_new before after
replied old middle new held out_old out_sent out_new before sent after text owed gathered same waits e f =
    let is : new ≡ record { held = held; line = []; number = old.number + 1 } = f ∙
    ap (λ (p : Place). record { held = p.held; line = []; number = p.number + 1 }) e in
    let P : Held → Type 0 = λ held. LineOwes (state_at old) old.line text (tool_state_of held) in
    let Q : Option (List ℕ) → List ℕ → Type 0 = λ out block. IsGathered out_old out block (before ++ text) in
    record {
      text = text;
      owed = subst P (sym (ap (λ (p : Place). p.held) is)) owed;
      gathered = subst (λ block. Q out_new block) (sym waits) (subst (λ out. Q out sent) (sym same) gathered);
      line = ap (λ (p : Place). p.line) is;
      number = ap (λ (p : Place). p.number) is;
    }

owed_nothing : (state : ToolState) (line : List ℕ) → length line ≤ 0 → LineOwes state line [] state
owed_nothing state [] none = (refl, refl)
owed_nothing state (b ∷ bs) none = absurd (omega arith)

-- An empty line owes nothing.
pub skipped : (old middle new : Place) (out_old out_new : Option (List ℕ)) (before after : List ℕ) → length old.line ≤ 0
    → out_new ≡ out_old → after ≡ before → middle ≡ old
    → new ≡ record { held = middle.held; line = []; number = middle.number + 1 } → RepliesTo old new out_old out_new before after
skipped old middle new out_old out_new before after none same waits e f =
    replied old middle new old.held out_old out_old out_new before before after [] (owed_nothing (state_at old) old.line none)
    (gathered_nothing out_old before) same waits e f

not_above : (z : ℤ) → z ≤ℤ pos 0 → 0 < natural z → ⊥
not_above (pos n) low high = omega (arith, ints)
not_above (negsuc n) low high = omega arith

-- A size with a side of 0 or less has no positive sides.
pub empty_size : (size : Size) → (size.width ≤ℤ pos 0) ⊎ (size.height ≤ℤ pos 0) → IsPositive (sides_of size) → ⊥
empty_size size (inl width) positive = not_above size.width width positive.0
empty_size size (inr height) positive = not_above size.height height positive.1
