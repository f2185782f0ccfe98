-- The steps of the debugger, one after another.
use Rattle.std.proofs.Common.{◌≡◌, ◌≢◌, refl, ℕ, ◌+◌, ◌<◌, Bool, true, false, nat_eq, List, [], ◌∷◌, ◌++◌, Option, length, take, drop, get_or, take-append-drop, sym, subst, ◌∙◌, inl, inr, append_assoc, append-nil}
use Rattle.std.proofs.lemmas.Grind.{flat_map-append}
use Rattle.std.proofs.lemmas.List.{take_more}
use Rattle.std.proofs.Math.Dec.{eqb-suc-zero}
use Rattle.std.proofs.KnownBytes.{Appends-trans, Appends-nil, Consumes-nil, Consumes-trans}
use Rattle.std.specs.List.{AllByRecursion}
use Rattle.std.specs.Io.KnownBytes.{Appends, Consumes, IsAtEnd}
use Rattle.mars_session.specs.Script.{SessionState}
use Rattle.mars_app.specs.declared.debugger.line_buffer.LineBuffer.{LineBuffer}
use Rattle.mars_app.specs.declared.debugger.request.Request.{Request}
use Rattle.mars_app.specs.declared.debugger.request.Request.TheVariants.{Quit}
use Rattle.mars_app.specs.Code.LineBuffer.{Holds}
use Rattle.mars_cell.specs.Written.{with_newline}
use Rattle.mars_app.specs.Debugger.Lines.{IsLine, line_request}
use Rattle.mars_cell.specs.Output.{CutShort}
use Rattle.mars_app.specs.Debugger.Transcript.{Transcript, GoesOn, Completes, WriteFails, answer, until_quit}
use Rattle.mars_app.specs.Debugger.Transcript.EndsIn.{at_newline, at_end}
use Rattle.mars_app.specs.Debugger.Transcript.Transcript.{none, line}
use Rattle.mars_app.specs.Code.Steps.{GoesThrough, Quits, WriteFailsWithin, ReadsOn, Finishes, WriteFailsAtEnd}
use Rattle.mars_app.proofs.Transcripts.LinesOf.{executed_lines, last_of, more_bytes, quit_before, until_quit-is, until_quit-one, until_quit-quit}

-- ---- The core size under another name

module _ {input left : Option (List ℕ)} {s : SessionState} {v : Option (List ℕ)} {t : SessionState} {w : Option (List ℕ)} {a b : ℕ} where
  pub Completes-along : a ≡ b → Completes a input left s v t w → Completes b input left s v t w
  Completes-along e h = let P : ℕ → Type 0 = λ n. Completes n input left s v t w in subst P e h

  pub WriteFails-along : a ≡ b → WriteFails a input left s v t w → WriteFails b input left s v t w
  WriteFails-along e h = let P : ℕ → Type 0 = λ n. WriteFails n input left s v t w in subst P e h

-- ---- Lists

pub every_push : {X : Type 0} (P : X → Type 0) (xs : List X) (x : X) → AllByRecursion P xs → P x → AllByRecursion P (xs ++ x ∷ [])
every_push P [] x h p = (p, tt)
every_push P (y ∷ xs) x h p = (h.0, every_push P xs x h.1 p)

module _ (core : ℕ) where
  -- ---- Lines and their replies

  -- Executing the lines `a`, and then the lines `b`, is executing one list of lines.
  pub Transcript-append : {s t u : SessionState} {x y : List ℕ} {a b : List (List ℕ)} → Transcript core s a t x → Transcript core t b u y → Transcript core s (a ++ b) u (x ++ y)
  Transcript-append none q = q
  Transcript-append (line poor l p e) q = line poor l (Transcript-append p q) (rw (e, append_assoc) refl)

  -- Executing one line.
  pub Transcript-one : (poor : Bool) (t : SessionState) (l : List ℕ) → Transcript core t (l ∷ []) (answer poor t (line_request core l)).0 (answer poor t (line_request core l)).1
  Transcript-one poor t l = line poor l none (rw append-nil refl)

  -- ---- One byte

  -- The byte is another byte of the line.
  pub goes_through_byte : (a b : LineBuffer) (t : SessionState) (v : Option (List ℕ)) (byte : ℕ) → byte ≢ 10 → ((l : List ℕ) → Holds a l → Holds b (l ++ byte ∷ []))
      → GoesThrough core (byte ∷ []) a t v b t v
  goes_through_byte a b t v byte other push s bytes text r = (
    [],
    Appends-nil v,
    record {
      lines = r.lines;
      rest = r.rest ++ byte ∷ [];
      splits = record {
        whole = rw (r.splits.whole, append_assoc) refl;
        each = r.splits.each;
        unfinished = every_push (λ b. b ≢ 10) r.rest byte r.splits.unfinished other;
      };
      goes_on = r.goes_on;
      answers = subst (Transcript core s r.lines t) (sym (append-nil text)) r.answers;
      holds = push r.rest r.holds;
    },
  )

  -- The byte ends the line, and the line is executed.
  pub goes_through_line : (a b : LineBuffer) (t u : SessionState) (v w : Option (List ℕ)) (request : Request) (poor : Bool)
      → ((l : List ℕ) → Holds a l → request ≡ line_request core l) → Holds b [] → request ≢ Quit
      → u ≡ (answer poor t request).0 → Appends v w (answer poor t request).1
      → GoesThrough core (10 ∷ []) a t v b u w
  goes_through_line a b t u v w request poor asks empty other tape written s bytes text r =
      let e = asks r.rest r.holds in (
        (answer poor t request).1,
        written,
        record {
          lines = r.lines ++ r.rest ∷ [];
          rest = [];
          splits = record {
            whole = rw (r.splits.whole, append_assoc, flat_map-append with_newline r.lines (r.rest ∷ [])) (simp append-nil);
            each = every_push IsLine r.lines r.rest r.splits.each r.splits.unfinished;
            unfinished = tt;
          };
          goes_on = every_push (GoesOn core) r.lines r.rest r.goes_on (λ q. other (e ∙ q));
          answers = Transcript-append r.answers (rw (tape, e) (Transcript-one poor t r.rest));
          holds = empty;
        },
      )

  -- The byte ends the line, and the line is `quit`.
  pub quits_at_line : (a : LineBuffer) (t : SessionState) (v : Option (List ℕ)) (request : Request)
      → ((l : List ℕ) → Holds a l → request ≡ line_request core l) → request ≡ Quit → Quits core (10 ∷ []) a t v t v
  quits_at_line a t v request asks quit s bytes text r = (
    [],
    Appends-nil v,
    record {
      quit = record {
        lines = r.lines;
        last = r.rest;
        more = [];
        whole = rw (r.splits.whole, append_assoc) refl;
        each = every_push IsLine r.lines r.rest r.splits.each r.splits.unfinished;
        goes_on = r.goes_on;
        quits = sym (asks r.rest r.holds) ∙ quit;
      };
      answers = subst (Transcript core s r.lines t) (sym (append-nil text)) r.answers;
    },
  )

  -- The byte ends the line, and a write of its reply fails.
  pub breaks_at_line : (a : LineBuffer) (t u : SessionState) (v w : Option (List ℕ)) (request : Request) (poor : Bool)
      → ((l : List ℕ) → Holds a l → request ≡ line_request core l)
      → u ≡ (answer poor t request).0 → CutShort v w (answer poor t request).1 → WriteFailsWithin core (10 ∷ []) a t v u w
  breaks_at_line a t u v w request poor asks tape cut s bytes text r =
      let e = asks r.rest r.holds in (
        take cut.0 (answer poor t request).1,
        cut.2,
        record {
          lines = r.lines;
          last = r.rest;
          more = [];
          whole = rw (r.splits.whole, append_assoc) refl;
          each = every_push IsLine r.lines r.rest r.splits.each r.splits.unfinished;
          goes_on = r.goes_on;
          cut = record {
            between = t;
            before = text;
            poor = poor;
            count = cut.0;
            answers = r.answers;
            session = rw e at tape;
            short = rw e at cut.1;
            text_is = rw e refl;
          };
        },
      )

  -- ---- Several bytes

  pub goes_through_both : (x y : List ℕ) (a b c : LineBuffer) (t u m : SessionState) (v w z : Option (List ℕ))
      → GoesThrough core x a t v b u w → GoesThrough core y b u w c m z → GoesThrough core (x ++ y) a t v c m z
  goes_through_both x y a b c t u m v w z first second s bytes text r =
      let p = first s bytes text r in
      let q = second s (bytes ++ x) (text ++ p.0) p.2 in
      (p.0 ++ q.0, Appends-trans v w z p.0 q.0 p.1 q.1, rw (← append_assoc bytes x y, ← append_assoc text p.0 q.0) q.2)

  pub quits_after : (x y : List ℕ) (a b : LineBuffer) (t u m : SessionState) (v w z : Option (List ℕ))
      → GoesThrough core x a t v b u w → Quits core y b u w m z → Quits core (x ++ y) a t v m z
  quits_after x y a b t u m v w z first second s bytes text r =
      let p = first s bytes text r in
      let q = second s (bytes ++ x) (text ++ p.0) p.2 in
      (p.0 ++ q.0, Appends-trans v w z p.0 q.0 p.1 q.1, rw (← append_assoc bytes x y, ← append_assoc text p.0 q.0) q.2)

  pub breaks_after : (x y : List ℕ) (a b : LineBuffer) (t u m : SessionState) (v w z : Option (List ℕ))
      → GoesThrough core x a t v b u w → WriteFailsWithin core y b u w m z → WriteFailsWithin core (x ++ y) a t v m z
  breaks_after x y a b t u m v w z first second s bytes text r =
      let p = first s bytes text r in
      let q = second s (bytes ++ x) (text ++ p.0) p.2 in
      (p.0 ++ q.0, Appends-trans v w z p.0 q.0 p.1 q.1, rw (← append_assoc bytes x y, ← append_assoc text p.0 q.0) q.2)

  pub quits_early : (x y : List ℕ) (a : LineBuffer) (t u : SessionState) (v w : Option (List ℕ)) → Quits core x a t v u w → Quits core (x ++ y) a t v u w
  quits_early x y a t u v w h s bytes text r =
      let p = h s bytes text r in
      (p.0, p.1, rw (← append_assoc bytes x y) (record { quit = quit_before core (bytes ++ x) y p.2.quit; answers = p.2.answers }))

  pub breaks_early : (x y : List ℕ) (a : LineBuffer) (t u : SessionState) (v w : Option (List ℕ)) → WriteFailsWithin core x a t v u w → WriteFailsWithin core (x ++ y) a t v u w
  breaks_early x y a t u v w h s bytes text r =
      let p = h s bytes text r in (
        p.0,
        p.1,
        record {
          lines = p.2.lines;
          last = p.2.last;
          more = p.2.more ++ y;
          whole = sym (append_assoc bytes x y) ∙ more_bytes (bytes ++ x) _ _ _ y p.2.whole;
          each = p.2.each;
          goes_on = p.2.goes_on;
          cut = p.2.cut;
        },
      )

  -- ---- A loop over bytes

  module _ (xs : List ℕ) (i byte : ℕ) (inside : i < length xs) (is : byte ≡ get_or xs i 0) where
    one_more : take (i + 1) xs ≡ take i xs ++ byte ∷ []
    one_more = rw (is, take_more xs i 0 inside) refl

    around : xs ≡ (take i xs ++ byte ∷ []) ++ drop (i + 1) xs
    around = rw (← one_more, take-append-drop (i + 1) xs) refl

    pub goes_through_next : (a b c : LineBuffer) (t u m : SessionState) (v w z : Option (List ℕ))
        → GoesThrough core (take i xs) a t v b u w → GoesThrough core (byte ∷ []) b u w c m z → GoesThrough core (take (i + 1) xs) a t v c m z
    goes_through_next a b c t u m v w z p q = rw one_more (goes_through_both _ _ a b c t u m v w z p q)

    pub quits_inside : (a b : LineBuffer) (t u m : SessionState) (v w z : Option (List ℕ))
        → GoesThrough core (take i xs) a t v b u w → Quits core (byte ∷ []) b u w m z → Quits core xs a t v m z
    quits_inside a b t u m v w z p q = rw around (quits_early _ (drop (i + 1) xs) a t m v z (quits_after _ _ a b t u m v w z p q))

    pub breaks_inside : (a b : LineBuffer) (t u m : SessionState) (v w z : Option (List ℕ))
        → GoesThrough core (take i xs) a t v b u w → WriteFailsWithin core (byte ∷ []) b u w m z → WriteFailsWithin core xs a t v m z
    breaks_inside a b t u m v w z p q = rw around (breaks_early _ (drop (i + 1) xs) a t m v z (breaks_after _ _ a b t u m v w z p q))

  -- ---- The end of the input

  is_empty_list : (l : List ℕ) → true ≡ nat_eq (length l) 0 → l ≡ []
  is_empty_list [] h = refl
  is_empty_list (b ∷ l) h = cc (eqb-suc-zero (length l))

  is_last : (l : List ℕ) → false ≡ nat_eq (length l) 0 → last_of l ≡ l ∷ []
  is_last [] h = cc
  is_last (b ∷ l) h = refl

  -- There is no unfinished line.
  pub finishes_empty : (a : LineBuffer) (t : SessionState) (v : Option (List ℕ)) → ((l : List ℕ) → Holds a l → true ≡ nat_eq (length l) 0) → Finishes core a t v t v
  unfolding until_quit
  finishes_empty a t v empty s bytes text r =
      let none : r.rest ≡ [] = is_empty_list r.rest (empty r.rest r.holds) in
      ([], Appends-nil v, rw (executed_lines core bytes r.lines r.rest r.splits r.goes_on, none, append-nil, append-nil) r.answers)

  -- The unfinished line is `quit`.
  pub finishes_quit : (a : LineBuffer) (t : SessionState) (v : Option (List ℕ)) (request : Request) → ((l : List ℕ) → Holds a l → false ≡ nat_eq (length l) 0)
      → ((l : List ℕ) → Holds a l → request ≡ line_request core l) → request ≡ Quit → Finishes core a t v t v
  finishes_quit a t v request some asks quit s bytes text r =
      let one = is_last r.rest (some r.rest r.holds) in
      ([], Appends-nil v, rw (executed_lines core bytes r.lines r.rest r.splits r.goes_on, one, until_quit-quit core r.rest [] (sym (asks r.rest r.holds) ∙ quit), append-nil, append-nil) r.answers)

  -- The unfinished line is executed.
  pub finishes_line : (a : LineBuffer) (t u : SessionState) (v w : Option (List ℕ)) (request : Request) (poor : Bool) → ((l : List ℕ) → Holds a l → false ≡ nat_eq (length l) 0)
      → ((l : List ℕ) → Holds a l → request ≡ line_request core l) → request ≢ Quit
      → u ≡ (answer poor t request).0 → Appends v w (answer poor t request).1 → Finishes core a t v u w
  finishes_line a t u v w request poor some asks other tape written s bytes text r =
      let e = asks r.rest r.holds in
      let one = is_last r.rest (some r.rest r.holds) in (
        (answer poor t request).1,
        written,
        rw (executed_lines core bytes r.lines r.rest r.splits r.goes_on, one, until_quit-one core r.rest (λ q. other (e ∙ q)))
            (Transcript-append r.answers (rw (tape, e) (Transcript-one poor t r.rest))),
      )

  -- The unfinished line is executed, and a write of its reply fails.
  pub breaks_at_last : (a : LineBuffer) (t u : SessionState) (v w : Option (List ℕ)) (request : Request) (poor : Bool)
      → ((l : List ℕ) → Holds a l → request ≡ line_request core l)
      → u ≡ (answer poor t request).0 → CutShort v w (answer poor t request).1 → WriteFailsAtEnd core a t v u w
  breaks_at_last a t u v w request poor asks tape cut s bytes text r =
      let e = asks r.rest r.holds in (
        take cut.0 (answer poor t request).1,
        r.lines,
        r.rest,
        cut.2,
        r.splits.whole,
        every_push IsLine r.lines r.rest r.splits.each r.splits.unfinished,
        r.goes_on,
        record {
          between = t;
          before = text;
          poor = poor;
          count = cut.0;
          answers = r.answers;
          session = rw e at tape;
          short = rw e at cut.1;
          text_is = rw e refl;
        },
      )

  -- ---- One read after another

  -- The bytes of the reads so far were processed: `input` and `left` are what the reader had and has left, `v` and `w` what the
  -- writer had and has.
  abbrev pub SoFar : Option (List ℕ) → Option (List ℕ) → SessionState → Option (List ℕ) → LineBuffer → SessionState → Option (List ℕ) → Type 0
  SoFar input left t v a u w = (bytes : List ℕ) × (text : List ℕ) × Consumes input left bytes × Appends v w text × ReadsOn core t bytes a u text

  pub reads_none : (input : Option (List ℕ)) (t : SessionState) (v : Option (List ℕ)) (a : LineBuffer) → Holds a [] → SoFar input input t v a t v
  reads_none input t v a h = (
    [],
    [],
    Consumes-nil input,
    Appends-nil v,
    record {
      lines = [];
      rest = [];
      splits = record { whole = refl; each = tt; unfinished = tt };
      goes_on = tt;
      answers = none;
      holds = h;
    },
  )

  module _ (input left : Option (List ℕ)) (t : SessionState) (v : Option (List ℕ)) (a : LineBuffer) (u : SessionState) (w : Option (List ℕ)) (so_far : SoFar input left t v a u w)
      (chunk : List ℕ) (then : Option (List ℕ)) (read : Consumes left then chunk) (m : SessionState) (z : Option (List ℕ)) where
    consumed : Consumes input then (so_far.0 ++ chunk)
    consumed = Consumes-trans input left then so_far.0 chunk so_far.2 read

    pub reads_more : (b : LineBuffer) → GoesThrough core chunk a u w b m z → SoFar input then t v b m z
    reads_more b h =
        let p = h t so_far.0 so_far.1 so_far.4 in
        (so_far.0 ++ chunk, so_far.1 ++ p.0, consumed, Appends-trans v w z so_far.1 p.0 so_far.3 p.1, p.2)

    pub reads_quit : Quits core chunk a u w m z → Completes core input then t v m z
    reads_quit h =
        let p = h t so_far.0 so_far.1 so_far.4 in
        record {
          bytes = so_far.0 ++ chunk;
          text = so_far.1 ++ p.0;
          consumed = consumed;
          answers = rw (until_quit-is core (so_far.0 ++ chunk) p.2.quit) p.2.answers;
          written = Appends-trans v w z so_far.1 p.0 so_far.3 p.1;
          ends = inl p.2.quit;
        }

    pub reads_break : WriteFailsWithin core chunk a u w m z → WriteFails core input then t v m z
    reads_break h =
        let p = h t so_far.0 so_far.1 so_far.4 in
        record {
          bytes = so_far.0 ++ chunk;
          lines = p.2.lines;
          last = p.2.last;
          text = so_far.1 ++ p.0;
          consumed = consumed;
          ends = at_newline p.2.more p.2.whole;
          each = p.2.each;
          goes_on = p.2.goes_on;
          broken = p.2.cut;
          written = Appends-trans v w z so_far.1 p.0 so_far.3 p.1;
        }

  module _ (input left : Option (List ℕ)) (t : SessionState) (v : Option (List ℕ)) (a : LineBuffer) (u : SessionState) (w : Option (List ℕ)) (so_far : SoFar input left t v a u w)
      (then : Option (List ℕ)) (read : Consumes left then []) (end : IsAtEnd then) (m : SessionState) (z : Option (List ℕ)) where
    all_consumed : Consumes input then so_far.0
    all_consumed = rw append-nil at (Consumes-trans input left then so_far.0 [] so_far.2 read)

    pub reads_end : Finishes core a u w m z → Completes core input then t v m z
    reads_end h =
        let p = h t so_far.0 so_far.1 so_far.4 in
        record {
          bytes = so_far.0;
          text = so_far.1 ++ p.0;
          consumed = all_consumed;
          answers = p.2;
          written = Appends-trans v w z so_far.1 p.0 so_far.3 p.1;
          ends = inr end;
        }

    pub reads_break_at_end : WriteFailsAtEnd core a u w m z → WriteFails core input then t v m z
    reads_break_at_end h =
        let p = h t so_far.0 so_far.1 so_far.4 in
        record {
          bytes = so_far.0;
          lines = p.1;
          last = p.2;
          text = so_far.1 ++ p.0;
          consumed = all_consumed;
          ends = at_end p.4 end;
          each = p.5;
          goes_on = p.6;
          broken = p.7;
          written = Appends-trans v w z so_far.1 p.0 so_far.3 p.3;
        }
