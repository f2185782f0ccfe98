use Rattle.std.proofs.Common.{◌∙◌, ◌-◌, ap, drop, length, take}
use Rattle.std.proofs.lemmas.List.{take_rest}
use Rattle.std.specs.Str.{str_eq_ignore_ascii_case}
use Rattle.redcode_text.specs.Tokens.{word_len}
use Rattle.redcode_text.proofs.source.row.has_word.Goals as goal

pub returns : goal.returns
returns c =
    let bytes = c.args.bytes.now in let rest = take (length bytes - c.args.at) (drop c.args.at bytes) in
    c.is_word.ensures
    ∙ ap (λ n. str_eq_ignore_ascii_case (take n rest) c.args.word.now) c.word_len.ensures.value
    ∙ ap (λ l. str_eq_ignore_ascii_case (take (word_len l) l) c.args.word.now) (take_rest bytes c.args.at)
