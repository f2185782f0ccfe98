-- The effect of an ordinary line or its error, in terms of its parts.
use Rattle.std.proofs.Common.{◌≡◌, ℕ, zero, suc, ◌-◌, List, Option, None, Some, Result, Ok, refl, ap, ◌∙◌, arith}
use Rattle.redcode_text.specs.Results.{◌>>=◌}
use Rattle.redcode_text.specs.declared.fault.TextTokenProblem.{TextTokenProblem}
use Rattle.redcode_text.specs.declared.token.Token.{Token}
use Rattle.redcode_text.specs.Lines.{Parts, Predefined, Reading, Step, prepend_to_first, append_to_last, each_line, line_added, on_line, operation_lines, ordinary_line, parts_of, parts_read}
use Rattle.redcode_text.specs.Code.Problems.{Fails}
use Rattle.redcode_text.proofs.Failing.{fails-bind}

module _ (ps : Predefined) (number : ℕ) (ts : List Token) (st : Reading) where
  abbrev then_read : Option (List Token → Step) → Parts → Result Reading TextTokenProblem
  then_read deeper p = parts_read deeper number p (operation_lines st p.operation) st

  pub ordinary-fails : (depth : ℕ) (e : TextTokenProblem) → Fails e (parts_of ps st ts) → Fails e (ordinary_line ps number depth ts st)
  ordinary-fails zero e h = fails-bind e (parts_of ps st ts) (then_read None) h
  ordinary-fails (suc depth) e h = fails-bind e (parts_of ps st ts) (then_read (Some (ordinary_line ps number depth))) h

  pub ordinary-plain : (depth : ℕ) (p : Parts) → parts_of ps st ts ≡ Ok p → operation_lines st p.operation ≡ None → ordinary_line ps number depth ts st ≡ Ok (line_added number (record p { rest = on_line number p.rest }) st)
  ordinary-plain zero p h none = ap (λ r. r >>= then_read None) h ∙ ap (λ o. parts_read None number p o st) none
  ordinary-plain (suc depth) p h none = ap (λ r. r >>= then_read (Some (ordinary_line ps number depth))) h ∙ ap (λ o. parts_read (Some (ordinary_line ps number depth)) number p o st) none

  pub ordinary-used : (depth : ℕ) (p : Parts) (lines : List (List Token)) → ¬ (depth ≡ 0) → parts_of ps st ts ≡ Ok p → operation_lines st p.operation ≡ Some lines
      → ordinary_line ps number depth ts st ≡ each_line (ordinary_line ps number (depth - 1)) (append_to_last (prepend_to_first p.label_tokens lines) p.rest) st
  ordinary-used zero p lines positive h some = absurd (positive refl)
  ordinary-used (suc depth) p lines positive h some =
      let e : depth ≡ suc depth - 1 = omega arith in
      ap (λ r. r >>= then_read (Some (ordinary_line ps number depth))) h
      ∙ ap (λ o. parts_read (Some (ordinary_line ps number depth)) number p o st) some
      ∙ ap (λ d. each_line (ordinary_line ps number d) (append_to_last (prepend_to_first p.label_tokens lines) p.rest) st) e
