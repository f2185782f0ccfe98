use Rattle.std.proofs.Common.{◌∙◌, ap, drop, take, length, nat_eq}
use Rattle.std.proofs.lemmas.List.{take_rest}
use Rattle.std.specs.List.{starts_with}
use Rattle.std.specs.Str.{str_eq_ignore_ascii_case, str_to_ascii_lowercase}
use Rattle.redcode_text.proofs.SourceLines.{starts-word}
use Rattle.redcode_text.proofs.source.directives.has_directive.Goals as goal

pub returns-clause-value : goal.returns-clause-value
returns-clause-value c =
    let bytes = c.args.bytes.now in let directive = c.args.directive.now in
    c.is_word.ensures
    ∙ ap (λ l. str_eq_ignore_ascii_case directive (take (length directive) l)) (take_rest bytes c.blank_len.result)
    ∙ starts-word (drop c.blank_len.result bytes) directive c.requires
    ∙ ap (λ n. starts_with nat_eq (str_to_ascii_lowercase (drop n bytes)) directive) c.blank_len.ensures.value
