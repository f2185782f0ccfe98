-- The parts of a line, one token at a time.
use Rattle.std.proofs.Common.{◌≡◌, ℕ, zero, suc, ◌+◌, ◌<◌, ◌≤◌, List, [], ◌∷◌, ◌++◌, length, length-drop, drop, drop-drop, take, get_or, Bool, true, false, Option, Some, None, Result, Ok, Err, refl, ap, sym, ◌∙◌, arith}
use Rattle.std.proofs.Math.Seq.{drop-cons}
use Rattle.redcode_text.specs.declared.fault.TextTokenProblem.{TextTokenProblem}
use Rattle.redcode_text.specs.declared.fault.TextProblem.TheVariants.{Duplicate}
use Rattle.redcode_text.specs.declared.token.Span.{Span}
use Rattle.redcode_text.specs.declared.token.Token.{Token}
use Rattle.redcode_text.specs.declared.token.TokenKind.{TokenKind}
use Rattle.redcode_text.specs.declared.token.TokenKind.TheVariants.{Number, Name}
use Rattle.redcode_text.specs.declared.token.TokenKind.TheVariants as token
use Rattle.redcode_text.specs.Spans.{last_span, span_of}
use Rattle.redcode_text.specs.Tokens.{problem_of}
use Rattle.redcode_text.specs.Lines.{Parts, Reading, Predefined, is_operation, may_label, parts_within, split_colon}

-- The first `i` tokens, the next one and `p` tokens after it are the first `i + 1 + p` tokens.
take-more : (ts : List Token) (i p : ℕ) (d : Token) → i < length ts → take i ts ++ get_or ts i d ∷ take p (drop (suc i) ts) ≡ take (i + suc p) ts
take-more [] i p d h = absurd (omega arith)
take-more (x ∷ xs) zero p d h = let e : suc p ≡ zero + suc p = omega arith in ap (λ n. take n (x ∷ xs)) e
take-more (x ∷ xs) (suc i) p d h =
    let e : suc (i + suc p) ≡ suc i + suc p = omega arith in
    ap (λ l. x ∷ l) (take-more xs i p d (omega arith)) ∙ ap (λ n. take n (x ∷ xs)) e

-- The last of the first `i + 1` tokens is the token `i`.
pub last-taken : (before : Option Span) (ts : List Token) (i : ℕ) (d : Token) → i < length ts → last_span before (take (suc i) ts) ≡ Some (span_of (get_or ts i d))
last-taken before [] i d h = absurd (omega arith)
last-taken before (x ∷ xs) zero d h = refl
last-taken before (x ∷ xs) (suc i) d h = last-taken (Some (span_of x)) xs i d (omega arith)

module _ (ps : Predefined) (st : Reading) where
  abbrev parted : ℕ → List ℕ → List Token → List Token → Result Parts TextTokenProblem
  parted k labels before ts = parts_within ps st k labels before ts

  abbrev found : List ℕ → List Token → Option ℕ → Option Span → List Token → Result Parts TextTokenProblem
  found labels before operation span rest = Ok (record { labels = labels; label_tokens = before; operation = operation; operation_span = span; rest = rest })

  abbrev found_none : List ℕ → List Token → List Token → Result Parts TextTokenProblem
  found_none labels before rest = found labels before None (last_span None before) rest

  abbrev at_kind : ℕ → List ℕ → List Token → Token → List Token → TokenKind → Result Parts TextTokenProblem
  at_kind k labels before t ts kind =
      elim kind as (λ _. Result Parts TextTokenProblem) [
        | Name n ↦ elim (is_operation st n) as (λ _. Result Parts TextTokenProblem) [
          | true ↦ found labels before (Some n) (Some (span_of t)) ts
          | false ↦ elim (may_label ps st labels n) as (λ _. Result Parts TextTokenProblem) [
            | true ↦ parted k (labels ++ n ∷ []) (before ++ t ∷ (split_colon ts).0) (split_colon ts).1
            | false ↦ Err (problem_of t Duplicate)
          ]
        ]
        | _ ↦ found_none labels before (t ∷ ts)
      ]

  head-operation : (k n : ℕ) (labels : List ℕ) (before : List Token) (t : Token) (ts : List Token) → t.kind ≡ Name n → is_operation st n ≡ true → parted (suc k) labels before (t ∷ ts) ≡ found labels before (Some n) (Some (span_of t)) ts
  head-operation k n labels before t ts e o = rw (e, o) refl

  head-duplicate : (k n : ℕ) (labels : List ℕ) (before : List Token) (t : Token) (ts : List Token) → t.kind ≡ Name n → is_operation st n ≡ false → may_label ps st labels n ≡ false → parted (suc k) labels before (t ∷ ts) ≡ Err (problem_of t Duplicate)
  head-duplicate k n labels before t ts e o m = rw (e, o, m) refl

  head-label : (k n : ℕ) (labels : List ℕ) (before : List Token) (t : Token) (ts : List Token) → t.kind ≡ Name n → is_operation st n ≡ false → may_label ps st labels n ≡ true
      → parted (suc k) labels before (t ∷ ts) ≡ parted k (labels ++ n ∷ []) (before ++ t ∷ (split_colon ts).0) (split_colon ts).1
  head-label k n labels before t ts e o m =
      ap (at_kind k labels before t ts) e
      ∙ ap (λ (b : Bool). elim b as (λ _. Result Parts TextTokenProblem) [
        | true ↦ found labels before (Some n) (Some (span_of t)) ts
        | false ↦ elim (may_label ps st labels n) as (λ _. Result Parts TextTokenProblem) [
          | true ↦ parted k (labels ++ n ∷ []) (before ++ t ∷ (split_colon ts).0) (split_colon ts).1
          | false ↦ Err (problem_of t Duplicate)
        ]
      ]) o
      ∙ ap (λ (b : Bool). elim b as (λ _. Result Parts TextTokenProblem) [
        | true ↦ parted k (labels ++ n ∷ []) (before ++ t ∷ (split_colon ts).0) (split_colon ts).1
        | false ↦ Err (problem_of t Duplicate)
      ]) m

  head-other : (k : ℕ) (labels : List ℕ) (before : List Token) (t : Token) (ts : List Token) (kind : TokenKind) → t.kind ≡ kind → ((n : ℕ) → kind ≡ Name n → ⊥) → parted (suc k) labels before (t ∷ ts) ≡ found_none labels before (t ∷ ts)
  head-other k labels before t ts (Name n) e h = absurd (h n refl)
  head-other k labels before t ts (Number z) e h = ap (at_kind k labels before t ts) e
  head-other k labels before t ts (token.Sign s) e h = ap (at_kind k labels before t ts) e

  -- ---- At an index

  pub operation-at : (ts : List Token) (i k n : ℕ) (d : Token) (labels : List ℕ) → i < length ts → length (drop i ts) ≤ k → (get_or ts i d).kind ≡ Name n → is_operation st n ≡ true
      → parted k labels (take i ts) (drop i ts) ≡ found labels (take i ts) (Some n) (last_span None (take (i + 1) ts)) (drop (i + 1) ts)
  operation-at ts i zero n d labels h fuel e o = absurd (omega (arith, length-drop i ts))
  operation-at ts i (suc k) n d labels h fuel e o =
      let s : suc i ≡ i + 1 = omega arith in
      ap (parted (suc k) labels (take i ts)) (drop-cons ts i d h)
      ∙ head-operation k n labels (take i ts) (get_or ts i d) (drop (suc i) ts) e o
      ∙ ap (λ span. found labels (take i ts) (Some n) span (drop (suc i) ts)) (sym (last-taken None ts i d h))
      ∙ ap (λ m. found labels (take i ts) (Some n) (last_span None (take m ts)) (drop m ts)) s

  pub duplicate-at : (ts : List Token) (i k n : ℕ) (d : Token) (labels : List ℕ) → i < length ts → length (drop i ts) ≤ k → (get_or ts i d).kind ≡ Name n → is_operation st n ≡ false → may_label ps st labels n ≡ false
      → parted k labels (take i ts) (drop i ts) ≡ Err (problem_of (get_or ts i d) Duplicate)
  duplicate-at ts i zero n d labels h fuel e o m = absurd (omega (arith, length-drop i ts))
  duplicate-at ts i (suc k) n d labels h fuel e o m =
      ap (parted (suc k) labels (take i ts)) (drop-cons ts i d h)
      ∙ head-duplicate k n labels (take i ts) (get_or ts i d) (drop (suc i) ts) e o m

  pub other-at : (ts : List Token) (i k : ℕ) (d : Token) (labels : List ℕ) → i < length ts → length (drop i ts) ≤ k → ((n : ℕ) → (get_or ts i d).kind ≡ Name n → ⊥)
      → parted k labels (take i ts) (drop i ts) ≡ found_none labels (take i ts) (drop i ts)
  other-at ts i zero d labels h fuel e = absurd (omega (arith, length-drop i ts))
  other-at ts i (suc k) d labels h fuel e =
      ap (parted (suc k) labels (take i ts)) (drop-cons ts i d h)
      ∙ head-other k labels (take i ts) (get_or ts i d) (drop (suc i) ts) (get_or ts i d).kind refl e
      ∙ ap (found_none labels (take i ts)) (sym (drop-cons ts i d h))

  pub end-at : (ts : List Token) (i k : ℕ) (labels : List ℕ) → length ts ≤ i → parted k labels (take i ts) (drop i ts) ≡ found_none labels (take i ts) (drop i ts)
  end-at ts i k labels h = go k (drop i ts) (omega (arith, length-drop i ts))
    where
      go : (k : ℕ) (rest : List Token) → length rest ≤ 0 → parted k labels (take i ts) rest ≡ found_none labels (take i ts) rest
      go zero rest none = refl
      go (suc k) [] none = refl
      go (suc k) (x ∷ rest) none = absurd (omega arith)

  -- After a label, at most `m` labels more are read, and no more than `m` tokens remain.
  pub label-at : (ts : List Token) (i k n p : ℕ) (d : Token) (labels : List ℕ) (whole : Result Parts TextTokenProblem) → i < length ts → length (drop i ts) ≤ k → (get_or ts i d).kind ≡ Name n → is_operation st n ≡ false → may_label ps st labels n ≡ true
      → split_colon (drop (i + 1) ts) ≡ (take p (drop (i + 1) ts), drop p (drop (i + 1) ts)) → parted k labels (take i ts) (drop i ts) ≡ whole
      → (m : ℕ) × (length (drop (i + 1 + p) ts) ≤ m) × (parted m (labels ++ n ∷ []) (take (i + 1 + p) ts) (drop (i + 1 + p) ts) ≡ whole)
  label-at ts i zero n p d labels whole h fuel e o m c is = absurd (omega (arith, length-drop i ts))
  label-at ts i (suc k) n p d labels whole h fuel e o m c is =
      let s : suc i ≡ i + 1 = omega arith in
      let front : i + suc p ≡ i + 1 + p = omega arith in
      let back : drop p (drop (i + 1) ts) ≡ drop (i + 1 + p) ts = drop-drop p (i + 1) ts in
      let split : split_colon (drop (suc i) ts) ≡ (take p (drop (suc i) ts), drop p (drop (suc i) ts)) = rw s c in (
        k,
        omega (arith, length-drop i ts, length-drop (i + 1 + p) ts),
        sym (
            ap (parted (suc k) labels (take i ts)) (drop-cons ts i d h)
            ∙ head-label k n labels (take i ts) (get_or ts i d) (drop (suc i) ts) e o m
            ∙ ap (λ q. parted k (labels ++ n ∷ []) (take i ts ++ get_or ts i d ∷ q.0) q.1) split
            ∙ ap (λ l. parted k (labels ++ n ∷ []) l (drop p (drop (suc i) ts))) (take-more ts i p d h ∙ ap (λ q. take q ts) front)
            ∙ ap (parted k (labels ++ n ∷ []) (take (i + 1 + p) ts)) (ap (λ q. drop p (drop q ts)) s ∙ back)
            ) ∙ is,
      )
