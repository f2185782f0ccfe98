-- Lemmas for the crates above: names and authors are printable, and how trees of expressions are spelled.
pub use Rattle.redcode_text.proofs.ForLaws.PrintedNames.{program-printed}
pub use Rattle.redcode_text.specs.Trees.{spelling, is_prefix, IsLevelled}
pub use Rattle.redcode_text.proofs.Trees.{rank-≤5}
pub use Rattle.redcode_text.proofs.Shapes.{shaped}
pub use Rattle.redcode_text.proofs.Splits.{tree-spelled}
