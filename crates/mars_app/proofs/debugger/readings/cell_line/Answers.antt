use Rattle.std.proofs.Common.{◌≡◌, ◌∙◌, ℕ, ◌+◌, ◌<◌, ◌≤◌, List, ◌++◌, Some, ap, ap₂, arith, codes, decimal, lit<, refl, subst, sym}
use Rattle.std.proofs.lemmas.Option.{get_or_from_slice_get, slice_get-get_or}
use Rattle.std.specs.List.{slice_get}
use Rattle.mars_cell.specs.Cells.{FitsCore, empty_cell}
use Rattle.mars_cell.specs.Text.{cell_text}
use Rattle.mars_cell.specs.declared.instruction.Cell.{Cell}
use Rattle.mars_core.specs.State.{State, cell_at}
use Rattle.mars_core.specs.Validity.{IsValid}
use Rattle.mars_app.proofs.debugger.readings.cell_line.Goals as goal

module _ (s : State) (address : ℕ) (valid : IsValid s) (inside : address < s.params.core_size) where
  there : slice_get s.core address ≡ Some (cell_at s.core address)
  there = slice_get-get_or s.core address empty_cell (rw valid.core.size inside)

  fits : (cell : Cell) → slice_get s.core address ≡ Some cell → FitsCore s.params.core_size cell
  fits cell is = subst (FitsCore s.params.core_size) (get_or_from_slice_get s.core address cell empty_cell is) (valid.core.cells address empty_cell (rw valid.core.size inside))

room : (head text : ℕ) → head ≤ 21 → text ≤ 48 → head + text ≤ 210
room head text h t = omega arith

room_after : (head text line : ℕ) → line ≡ head + text → head ≤ 21 → text ≤ 48 → line + 1 ≤ 210
room_after head text line e h t = omega arith

together : (a b c d first second line : List ℕ) → first ≡ a ++ b → second ≡ first ++ c → line ≡ second ++ d → line ≡ a ++ b ++ c ++ d
together a b c d first second line e f g = g ∙ ap (λ l. l ++ d) (f ∙ ap (λ l. l ++ c) e)

pub unwrap-cell-requires : goal.unwrap-cell-requires
unwrap-cell-requires c = rw (c.cell.ensures, there c.args.battle.now c.args.address c.params.ensures.valid c.requires) refl

pub text-requires-clause-a : goal.text-requires-clause-a
text-requires-clause-a c =
    let fit = fits c.args.battle.now c.args.address c.params.ensures.valid c.requires _ (sym c.cell.ensures ∙ c.unwrap-cell.ensures) in
    rw (c.core_size-core_size.ensures.value, c.params.ensures.value) fit.a

pub text-requires-clause-b : goal.text-requires-clause-b
text-requires-clause-b c =
    let fit = fits c.args.battle.now c.args.address c.params.ensures.valid c.requires _ (sym c.cell.ensures ∙ c.unwrap-cell.ensures) in
    rw (c.core_size-core_size.ensures.value, c.params.ensures.value) fit.b

pub push_str-requires : goal.push_str-requires
push_str-requires c = (lit< tt, room _ _ c.numbered-line.ensures.len c.as_str.ensures.fits)

pub push_str-requires-2 : goal.push_str-requires-2
push_str-requires-2 c = (lit< tt, room_after _ _ _ c.push_str.ensures.len c.numbered-line.ensures.len c.as_str.ensures.fits)

pub returns : goal.returns
returns c =
    let s = c.args.battle.now in
    let size : c.core_size-core_size.result ≡ s.params.core_size = c.core_size-core_size.ensures.value ∙ ap (λ p. p.core_size) c.params.ensures.value in
    let cell : cell_at s.core c.args.address ≡ c.unwrap-cell.result = get_or_from_slice_get s.core c.args.address _ empty_cell (sym c.cell.ensures ∙ c.unwrap-cell.ensures) in
    let text : c.as_str.result.now ≡ cell_text s.params.core_size (cell_at s.core c.args.address) = c.as_str.ensures.value ∙ c.text.ensures ∙ ap₂ cell_text size (sym cell) in
    let number : c.numbered-line.result.bytes ≡ decimal c.args.address ++ codes " " = c.numbered-line.ensures.bytes ∙ ap (λ n. decimal n ++ codes " ") c.from.ensures in
    together (decimal c.args.address) (codes " ") _ (codes "\n") _ _ _ number (c.push_str.ensures.bytes ∙ ap (λ t. c.numbered-line.result.bytes ++ t) text) c.push_str-2.ensures.bytes
