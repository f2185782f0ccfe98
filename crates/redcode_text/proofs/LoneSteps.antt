-- A source whose items end at a ROF without a FOR.
use Rattle.std.proofs.Common.{◌≡◌, ◌∙◌, ℕ, ◌<◌, List, [], ◌∷◌, length, map, Bool, true, false, Result, Ok, Err, ap, refl, subst, sym, get_or}
use Rattle.redcode_text.specs.Results.{◌>>=◌}
use Rattle.redcode_text.specs.declared.fault.TextFault.{TextFault}
use Rattle.redcode_text.specs.declared.fault.TextProblem.{TextProblem}
use Rattle.redcode_text.specs.declared.fault.TextTokenProblem.{TextTokenProblem}
use Rattle.redcode_text.specs.declared.fault.TextProblem.TheVariants.{UnclosedFor, RofAlone}
use Rattle.redcode_text.specs.declared.source.row.SourceRow as code
use Rattle.redcode_text.specs.Expansion.{flat, unpaired_line}
use Rattle.redcode_text.specs.Lines.{Predefined, Reading, line_read, plain_line, unless_ended}
use Rattle.redcode_text.specs.Code.Loops.{one_loop}
use Rattle.redcode_text.specs.Outcomes.{FailsAt}
use Rattle.redcode_text.specs.Code.Rows.{row_of}
use Rattle.redcode_text.specs.Code.Pairs.{here_from, EndsAt}
use Rattle.redcode_text.specs.Source.{Items, Nothing, Plain, Loop, LoneRof, SourceRow, loop_word, paired, then_lone, tree_of_rows, with_lone}
use Rattle.redcode_text.specs.Source as source
use Rattle.redcode_text.specs.Tokens.{at_line, problem_at}
use Rattle.redcode_text.proofs.LoopSteps.{flat-loop, goes-on, stops, then-fails}
use Rattle.redcode_text.proofs.PairSteps.{rof-at}

abbrev lone : SourceRow → Reading → Result Reading TextFault
lone rof st = at_line rof.number (unpaired_line RofAlone rof st)

-- If `g` is `f` followed by `h`, then a step followed by `g` is the step followed by `f` and then by `h`.
step-lone : (r : Result Reading TextFault) (f g h : Reading → Result Reading TextFault) → ((a : Reading) → a.ended ≡ false → g a ≡ (f a >>= λ b. unless_ended b h))
    → (r >>= λ a. unless_ended a g) ≡ ((r >>= λ a. unless_ended a f) >>= λ b. unless_ended b h)
step-lone (Err e) f g h same = refl
step-lone (Ok a) f g h same = go a.ended refl
  where
    go : (c : Bool) → a.ended ≡ c → elim c as (λ _. Result Reading TextFault) [ true ↦ Ok a | false ↦ g a ] ≡ (elim c as (λ _. Result Reading TextFault) [ true ↦ Ok a | false ↦ f a ] >>= λ b. unless_ended b h)
    go true e = sym (stops a h e)
    go false e = same a e

unpaired-fails : (p : TextProblem) (row : SourceRow) (n : ℕ) (st : Reading) (h : Reading → Result Reading TextFault) → at_line n (unpaired_line p row st) ≡ (at_line n (unpaired_line p row st) >>= λ b. unless_ended b h)
unpaired-fails p row n st h = go (line_read st)
  where
    go : (r : Result Reading TextTokenProblem) → at_line n (r >>= λ _. Err (problem_at (loop_word row) p)) ≡ (at_line n (r >>= λ _. Err (problem_at (loop_word row) p)) >>= λ b. unless_ended b h)
    go (Ok a) = refl
    go (Err e) = refl

pub flat-lone : (ps : Predefined) (rof : SourceRow) (items : Items) (st : Reading) → st.ended ≡ false → flat ps (then_lone rof items) st ≡ (flat ps items st >>= λ a. unless_ended a (lone rof))
flat-lone ps rof Nothing st e = sym (goes-on st (lone rof) e)
flat-lone ps rof (Plain row rest) st e = step-lone (at_line row.number (plain_line ps row st)) (flat ps rest) (flat ps (then_lone rof rest)) (lone rof) (flat-lone ps rof rest)
flat-lone ps rof (Loop head body end rest) st e =
    flat-loop ps head body end (then_lone rof rest) st
    ∙ step-lone (one_loop ps head body end st) (flat ps rest) (flat ps (then_lone rof rest)) (lone rof) (flat-lone ps rof rest)
    ∙ ap (λ r. r >>= λ a. unless_ended a (lone rof)) (sym (flat-loop ps head body end rest st))
flat-lone ps rof (source.UnclosedFor row rest) st e = unpaired-fails UnclosedFor row row.number st (lone rof)
flat-lone ps rof (LoneRof row rest) st e = unpaired-fails RofAlone row row.number st (lone rof)

pub lone-fails : (ps : Predefined) (items : Items) (waiting : List (SourceRow × Items)) (st : Reading) (fault : TextFault) → st.ended ≡ false → FailsAt fault.problem fault (flat ps items st) → FailsAt fault.problem fault (flat ps (with_lone items waiting) st)
lone-fails ps items [] st fault e h = h
lone-fails ps items (rof ∷ waiting) st fault e h = subst (FailsAt fault.problem fault) (sym (flat-lone ps rof.0 items st e)) (then-fails fault (flat ps items st) (λ a. unless_ended a (lone rof.0)) h)

pub lone-ended : (ps : Predefined) (items : Items) (waiting : List (SourceRow × Items)) (st a : Reading) → st.ended ≡ false → flat ps items st ≡ Ok a → a.ended ≡ true → flat ps (with_lone items waiting) st ≡ Ok a
lone-ended ps items [] st a e h ended = h
lone-ended ps items (rof ∷ waiting) st a e h ended = flat-lone ps rof.0 items st e ∙ ap (λ r. r >>= λ a. unless_ended a (lone rof.0)) h ∙ stops a (lone rof.0) ended

-- If the items of all rows end at a ROF, reading the rows ends with the error of the ROF.
pub lone-at : (ps : Predefined) (rows : List code.SourceRow) (j : ℕ) (s : code.SourceRow) (st a : Reading) → st.ended ≡ false → flat ps (here_from rows 0) st ≡ Ok a → a.ended ≡ false → EndsAt rows 0 j → j < length rows → s ≡ get_or rows j s
    → flat ps (tree_of_rows (map row_of rows)) st ≡ at_line (row_of s).number (unpaired_line RofAlone (row_of s) a)
lone-at ps rows j s st a e h going ends inside si =
    let rof = row_of (get_or rows j s) in
    ap (λ w. flat ps (with_lone (here_from rows 0) w) st) (ends.waiting ∙ rof-at rows j s inside ends.at_end)
    ∙ flat-lone ps rof (here_from rows 0) st e
    ∙ ap (λ r. r >>= λ a. unless_ended a (lone rof)) h
    ∙ goes-on a (lone rof) going
    ∙ ap (λ row. at_line (row_of row).number (unpaired_line RofAlone (row_of row) a)) (sym si)
