-- The lines of some bytes.
use Rattle.std.proofs.Common.{◌≡◌, ◌≢◌, refl, ap, ◌∙◌, ℕ, false, List, [], ◌∷◌, ◌++◌, nat_eq, rules, append_assoc, append-nil}
use Rattle.std.specs.List.{flat_map, AllByRecursion}
use Rattle.mars_app.specs.declared.debugger.request.Request.{Request}
use Rattle.mars_app.specs.declared.debugger.request.Request.TheVariants as request
use Rattle.mars_cell.specs.Load.{lines_of}
use Rattle.mars_cell.specs.Written.{with_newline}
use Rattle.mars_app.specs.Debugger.Lines.{IsLine, Splits, line_request}
use Rattle.mars_app.specs.Debugger.Transcript.{GoesOn, HasQuit, is_quit, until_quit}

not_newline : (b : ℕ) → b ≢ 10 → nat_eq b 10 ≡ false
not_newline b h = search rules

pub lines_of-line : (l bs : List ℕ) → IsLine l → lines_of (l ++ 10 ∷ bs) ≡ l ∷ lines_of bs
unfolding lines_of
lines_of-line [] bs h = refl
lines_of-line (b ∷ l) bs h = rw (not_newline b h.0, lines_of-line l bs h.1) refl

-- The line without a newline, if there is one.
abbrev pub last_of : List ℕ → List (List ℕ)
last_of [] = []
last_of (b ∷ l) = (b ∷ l) ∷ []

pub lines_of-open : (l : List ℕ) → IsLine l → lines_of l ≡ last_of l
unfolding lines_of
lines_of-open [] h = refl
lines_of-open (b ∷ []) h = rw (not_newline b h.0) refl
lines_of-open (b ∷ c ∷ l) h = rw (not_newline b h.0, lines_of-open (c ∷ l) h.1) refl

pub lines_of-lines : (ls : List (List ℕ)) (bs : List ℕ) → AllByRecursion IsLine ls → lines_of (flat_map with_newline ls ++ bs) ≡ ls ++ lines_of bs
lines_of-lines [] bs h = refl
lines_of-lines (l ∷ ls) bs h = rw (append_assoc, append_assoc l (10 ∷ []) (flat_map with_newline ls ++ bs), lines_of-line l (flat_map with_newline ls ++ bs) h.0, lines_of-lines ls bs h.1) refl

pub every_split : {X : Type 0} (P : X → Type 0) (xs : List X) (x : X) → AllByRecursion P (xs ++ x ∷ []) → AllByRecursion P xs × P x
every_split P [] x h = (tt, h.0)
every_split P (y ∷ xs) x h = let r = every_split P xs x h.1 in ((h.0, r.0), r.1)

-- A complete line of `bytes` is still complete if `others` follow.
pub more_bytes : (bytes front last more others : List ℕ) → bytes ≡ front ++ (last ++ 10 ∷ more) → bytes ++ others ≡ front ++ (last ++ 10 ∷ (more ++ others))
more_bytes bytes front last more others e = ap (λ l. l ++ others) e ∙ append_assoc front (last ++ 10 ∷ more) others ∙ ap (λ l. front ++ l) (append_assoc last (10 ∷ more) others)

is_no_quit : (r : Request) → r ≢ request.Quit → is_quit r ≡ false
is_no_quit request.Nothing h = refl
is_no_quit (request.Call call) h = refl
is_no_quit (request.List address n) h = refl
is_no_quit (request.Queue warrior) h = refl
is_no_quit request.Show h = refl
is_no_quit request.Quit h = absurd (h refl)
is_no_quit request.Unknown h = refl

pub until_quit-lines : (m : ℕ) (ls more : List (List ℕ)) → AllByRecursion (GoesOn m) ls → until_quit m (ls ++ more) ≡ ls ++ until_quit m more
unfolding until_quit
until_quit-lines m [] more h = refl
until_quit-lines m (l ∷ ls) more h = rw (is_no_quit (line_request m l) h.0, until_quit-lines m ls more h.1) refl

pub until_quit-quit : (m : ℕ) (l : List ℕ) (ls : List (List ℕ)) → line_request m l ≡ request.Quit → until_quit m (l ∷ ls) ≡ []
unfolding until_quit
until_quit-quit m l ls e = rw e refl

pub until_quit-one : (m : ℕ) (l : List ℕ) → GoesOn m l → until_quit m (l ∷ []) ≡ l ∷ []
unfolding until_quit
until_quit-one m l h = rw (is_no_quit (line_request m l) h) refl

-- The lines before a `quit` are those that are executed.
pub until_quit-is : (m : ℕ) (bytes : List ℕ) (quit : HasQuit m bytes) → until_quit m (lines_of bytes) ≡ quit.lines
until_quit-is m bytes quit =
    let split = every_split IsLine quit.lines quit.last quit.each in
    let after = lines_of quit.more in
    rw (
      quit.whole,
      lines_of-lines quit.lines (quit.last ++ 10 ∷ quit.more) split.0,
      lines_of-line quit.last quit.more split.1,
      until_quit-lines m quit.lines (quit.last ∷ after) quit.goes_on,
      until_quit-quit m quit.last after quit.quits,
    ) (append-nil quit.lines)

-- Bytes after the `quit` do not matter.
abbrev pub quit_before : (m : ℕ) (bytes more : List ℕ) → HasQuit m bytes → HasQuit m (bytes ++ more)
quit_before m bytes more quit = record {
  lines = quit.lines;
  last = quit.last;
  more = quit.more ++ more;
  whole = more_bytes bytes (flat_map with_newline quit.lines) quit.last quit.more more quit.whole;
  each = quit.each;
  goes_on = quit.goes_on;
  quits = quit.quits;
}

-- The lines of some bytes that are executed.
pub executed_lines : (m : ℕ) (bytes : List ℕ) (lines : List (List ℕ)) (rest : List ℕ) → Splits bytes lines rest → AllByRecursion (GoesOn m) lines
    → until_quit m (lines_of bytes) ≡ lines ++ until_quit m (last_of rest)
executed_lines m bytes lines rest s g = rw (s.whole, lines_of-lines lines rest s.each, until_quit-lines m lines (lines_of rest) g, lines_of-open rest s.unfinished) refl
