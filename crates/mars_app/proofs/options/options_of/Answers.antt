use Rattle.mars_app.proofs.options.options_of.Goals as goal

-- A path between records, field by field.
pub returns : goal.returns
returns c = λ i. record {
  files = c.in_ok-files.ensures i;
  rounds = c.number.ensures i;
  core = c.number-2.ensures i;
  cycles = c.number-3.ensures i;
  processes = c.number-4.ensures i;
  longest = c.number-5.ensures i;
  distance = c.number-6.ensures i;
  fixed = c.given_number.ensures i;
  debugger = c.is_given.ensures i;
  brief = c.is_given-2.ensures i;
  sorted = c.is_given-3.ensures i;
  seed = c.number-7.ensures i;
  score = c.in_ok-score.ensures i;
  league = c.is_given-4.ensures i;
  load = c.is_given-5.ensures i;
  read_limit = c.given_number-2.ensures i;
  write_limit = c.given_number-3.ensures i;
  history = c.number-8.ensures i;
}
