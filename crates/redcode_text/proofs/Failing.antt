-- If the first of two steps fails, both together fail with the same error, also after the error gets its token or line.
use Rattle.std.proofs.Common.{◌≡◌, ◌∙◌, ℕ, Option, Result, Ok, Err, ap, refl, sym, subst}
use Rattle.redcode_text.specs.Results.{◌>>=◌}
use Rattle.redcode_text.specs.declared.fault.TextFault.{TextFault}
use Rattle.redcode_text.specs.declared.fault.TextProblem.{TextProblem}
use Rattle.redcode_text.specs.declared.fault.TextProblem.TheVariants.{NotAscii, BadToken, UnclosedFor, RofAlone, BadCount, LabelInCount, Duplicate, EquDepth, TooLong, Expression, OutOfMemory}
use Rattle.redcode_text.specs.declared.fault.TextTokenProblem.{TextTokenProblem}
use Rattle.redcode_text.specs.declared.token.Span.{Span}
use Rattle.redcode_text.specs.Outcomes.{FailsAt}
use Rattle.redcode_text.specs.Code.Problems.{Fails, FailsBare, FailsBy, fault_line, fault_token}
use Rattle.redcode_text.specs.Tokens.{at_line, at_token, problem_at, without_line}

-- If `f` turns the error `e` into the error `to`, and a result fails with `e`, then `f` of the result fails with `to`.
passed-on : {A B E F : Type 0} (p : TextProblem) (e : E) (to : F) (r : Result A E) (f : Result A E → Result B F) → f (Err e) ≡ Err to → FailsBy p e r → FailsBy p to (f r)
passed-on NotAscii e to r f is h = ap f h ∙ is
passed-on BadToken e to r f is h = ap f h ∙ is
passed-on UnclosedFor e to r f is h = ap f h ∙ is
passed-on RofAlone e to r f is h = ap f h ∙ is
passed-on BadCount e to r f is h = ap f h ∙ is
passed-on LabelInCount e to r f is h = ap f h ∙ is
passed-on Duplicate e to r f is h = ap f h ∙ is
passed-on EquDepth e to r f is h = ap f h ∙ is
passed-on TooLong e to r f is h = ap f h ∙ is
passed-on (Expression x) e to r f is h = ap f h ∙ is
passed-on OutOfMemory e to r f is h = tt

pub fails-bind : {A B : Type 0} (e : TextTokenProblem) (r : Result A TextTokenProblem) (f : A → Result B TextTokenProblem) → Fails e r → Fails e (r >>= f)
fails-bind e r f h = passed-on e.problem e e r (λ r. r >>= f) refl h

-- An error with the bytes of its token is the defined error, with the bytes added.
pub fails-token : {A : Type 0} (span : Option Span) (p : TextProblem) (r : Result A TextProblem) → FailsBare p r → Fails (problem_at span p) (at_token span r)
fails-token span p r h = passed-on p p (problem_at span p) r (at_token span) refl h

pub bind-ok : {A B : Type 0} (r : Result A TextTokenProblem) (x : A) (f : A → Result B TextTokenProblem) → r ≡ Ok x → (r >>= f) ≡ f x
bind-ok r x f h = ap (λ r. r >>= f) h

pub fails-itself : (A : Type 0) (e : TextProblem) → FailsBare {X = A} e (Err e)
fails-itself A NotAscii = refl
fails-itself A BadToken = refl
fails-itself A UnclosedFor = refl
fails-itself A RofAlone = refl
fails-itself A BadCount = refl
fails-itself A LabelInCount = refl
fails-itself A Duplicate = refl
fails-itself A EquDepth = refl
fails-itself A TooLong = refl
fails-itself A (Expression x) = refl
fails-itself A OutOfMemory = tt

-- An error with its line is the defined error, with the line added.
fault-at : {A : Type 0} (n : ℕ) (p : TextTokenProblem) (f : TextFault) (r : Result A TextTokenProblem) → f.problem ≡ p.problem → f.line ≡ n → f.token ≡ p.token → r ≡ Err p → at_line n r ≡ Err f
fault-at n p f r e l s h = ap (at_line n) h ∙ (λ i. Err (record { line = sym l i; problem = sym e i; token = sym s i }))

at-problem : {A : Type 0} (n : ℕ) (q : TextProblem) (p : TextTokenProblem) (f : TextFault) (r : Result A TextTokenProblem) → f.problem ≡ p.problem → f.line ≡ fault_line n q → f.token ≡ fault_token p.token q → FailsBy q p r → FailsAt q f (at_line n r)
at-problem n NotAscii p f r e l s h = fault-at n p f r e l s h
at-problem n BadToken p f r e l s h = fault-at n p f r e l s h
at-problem n UnclosedFor p f r e l s h = fault-at n p f r e l s h
at-problem n RofAlone p f r e l s h = fault-at n p f r e l s h
at-problem n BadCount p f r e l s h = fault-at n p f r e l s h
at-problem n LabelInCount p f r e l s h = fault-at n p f r e l s h
at-problem n Duplicate p f r e l s h = fault-at n p f r e l s h
at-problem n EquDepth p f r e l s h = fault-at n p f r e l s h
at-problem n TooLong p f r e l s h = fault-at n p f r e l s h
at-problem n (Expression x) p f r e l s h = fault-at n p f r e l s h
at-problem n OutOfMemory p f r e l s h = (l, s)

pub fails-at : {A : Type 0} (n : ℕ) (p : TextTokenProblem) (f : TextFault) (r : Result A TextTokenProblem) → f.problem ≡ p.problem → f.line ≡ fault_line n p.problem → f.token ≡ fault_token p.token p.problem → Fails p r → FailsAt f.problem f (at_line n r)
fails-at n p f r e l s h = subst (λ q. FailsAt q f (at_line n r)) (sym e) (at-problem n p.problem p f r e l s h)

-- If a step fails, then the step without the line of its error, followed by another step, fails with the same problem
-- and token.
bare-problem : {A B : Type 0} (p : TextProblem) (f : TextFault) (e : TextTokenProblem) (r : Result A TextFault) (k : A → Result B TextTokenProblem) → e ≡ record { problem = f.problem; token = f.token } → FailsAt p f r → FailsBy p e (without_line r >>= k)
bare-problem NotAscii f e r k is h = ap (λ r. without_line r >>= k) h ∙ ap Err (sym is)
bare-problem BadToken f e r k is h = ap (λ r. without_line r >>= k) h ∙ ap Err (sym is)
bare-problem UnclosedFor f e r k is h = ap (λ r. without_line r >>= k) h ∙ ap Err (sym is)
bare-problem RofAlone f e r k is h = ap (λ r. without_line r >>= k) h ∙ ap Err (sym is)
bare-problem BadCount f e r k is h = ap (λ r. without_line r >>= k) h ∙ ap Err (sym is)
bare-problem LabelInCount f e r k is h = ap (λ r. without_line r >>= k) h ∙ ap Err (sym is)
bare-problem Duplicate f e r k is h = ap (λ r. without_line r >>= k) h ∙ ap Err (sym is)
bare-problem EquDepth f e r k is h = ap (λ r. without_line r >>= k) h ∙ ap Err (sym is)
bare-problem TooLong f e r k is h = ap (λ r. without_line r >>= k) h ∙ ap Err (sym is)
bare-problem (Expression x) f e r k is h = ap (λ r. without_line r >>= k) h ∙ ap Err (sym is)
bare-problem OutOfMemory f e r k is h = tt

pub fails_bare : {A B : Type 0} (f : TextFault) (r : Result A TextFault) (k : A → Result B TextTokenProblem) → FailsAt f.problem f r → FailsBy f.problem (record { problem = f.problem; token = f.token }) (without_line r >>= k)
fails_bare f r k h = bare-problem f.problem f (record { problem = f.problem; token = f.token }) r k refl h
