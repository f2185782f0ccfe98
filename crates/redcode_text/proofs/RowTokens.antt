-- The tokens of a row are the tokens of its bytes before a comment, as the code reads them.
use Rattle.std.proofs.Common.{◌≡◌, ℕ, suc, ◌+◌, ◌-◌, List, [], ◌∷◌, length, drop, take, Bool, true, false, not, ◌==◌, cond, Result, Ok, refl, ap, sym, ◌∙◌, arith, subst}
use Rattle.std.specs.List.{prefix_len}
use Rattle.redcode_text.specs.Results.{◌>>=◌}
use Rattle.redcode_text.specs.declared.fault.TextTokenProblem.{TextTokenProblem}
use Rattle.redcode_text.specs.declared.token.Token.{Token}
use Rattle.redcode_text.specs.Equates.{limit}
use Rattle.redcode_text.specs.Lines.{Reading, WithTokens, before_comment, row_tokens}
use Rattle.redcode_text.specs.Code.Problems.{Fails}
use Rattle.redcode_text.specs.Source.{SourceRow}
use Rattle.redcode_text.specs.Tokens.{Scanned, scan_from, tokens}
use Rattle.redcode_text.proofs.Failing.{fails-bind}

-- The byte doesn't start a comment.
abbrev no_comment : ℕ → Bool
no_comment b = not (b == 59)

pub comment-first : (bs : List ℕ) → take (prefix_len no_comment bs) bs ≡ before_comment bs
comment-first [] = refl
comment-first (b ∷ bs) = go (b == 59) (comment-first bs)
  where
    go : (t : Bool) → take (prefix_len no_comment bs) bs ≡ before_comment bs
        → take (cond (not t) (1 + prefix_len no_comment bs) 0) (b ∷ bs) ≡ elim t as (λ _. List ℕ) [ true ↦ [] | false ↦ b ∷ before_comment bs ]
    go true h = refl
    go false h = let e : 1 + prefix_len no_comment bs ≡ suc (prefix_len no_comment bs) = omega arith in rw e (ap (λ l. b ∷ l) h)

module _ (st : Reading) (row : SourceRow) (at : ℕ) (code : List ℕ) (before : List Token) (is : code ≡ before_comment (drop at row.bytes)) (none : before ≡ []) where
  abbrev read : Result Scanned TextTokenProblem
  read = scan_from st.loops row.number (limit - st.tokens_read) (row.at + at) 0 code (record { tokens = before; names = st.names })

  start : read ≡ tokens st.loops row.number (row.at + at) (limit - st.tokens_read) st.names (before_comment (drop at row.bytes))
  start = λ i. scan_from st.loops row.number (limit - st.tokens_read) (row.at + at) 0 (is i) (record { tokens = none i; names = st.names })

  abbrev with_read : Scanned → Result WithTokens TextTokenProblem
  with_read s = Ok (s.tokens, record st { names = s.names; tokens_read = st.tokens_read + length s.tokens })

  abbrev with_count : Scanned → ℕ → Result WithTokens TextTokenProblem
  with_count s n = Ok (s.tokens, record st { names = s.names; tokens_read = st.tokens_read + n })

  pub row-ok : (s : Scanned) (n : ℕ) → n ≡ length s.tokens → read ≡ Ok s → row_tokens row at st ≡ with_count s n
  row-ok s n e h = ap (λ r. r >>= with_read) (sym start ∙ h) ∙ ap (with_count s) (sym e)

  pub row-fails : (e : TextTokenProblem) → Fails e read → Fails e (row_tokens row at st)
  row-fails e h = fails-bind e _ with_read (subst (Fails e) start h)
