use Rattle.std.proofs.Common.{rules}
use Rattle.mars_cell.specs.Code.Listing.{header_value, listing}
use Rattle.mars_cell.specs.Load.{lines_of}
use Rattle.mars_cell.proofs.Listings.{body-listing, fault_from_listing}
use Rattle.mars_cell.proofs.load.read_body.Goals as goal

pub returns-in-Err-clause-value : goal.returns-in-Err-clause-value
returns-in-Err-clause-value c = fault_from_listing (header_value c.args.header) c.args.params.now.core_size c.args.params.now.max_length c.args.lines.number (lines_of c.args.lines.rest.now) c.in-Err.fault (rw c.core_size.ensures.value at c.in-Err.ensures.value)

pub returns-then-length-max_length-clause-value : goal.returns-then-length-max_length-clause-value
returns-then-length-max_length-clause-value c = rw (body-listing (header_value c.args.header) c.args.params.now.core_size c.args.params.now.max_length c.args.lines.number (lines_of c.args.lines.rest.now) (listing c.in-Ok.reading) (rw c.core_size.ensures.value at c.in-Ok.ensures.value)) (search rules)

pub returns-then-length-eq0-clause-value : goal.returns-then-length-eq0-clause-value
returns-then-length-eq0-clause-value c = rw (body-listing (header_value c.args.header) c.args.params.now.core_size c.args.params.now.max_length c.args.lines.number (lines_of c.args.lines.rest.now) (listing c.in-Ok.reading) (rw c.core_size.ensures.value at c.in-Ok.ensures.value)) (search rules)

pub returns-then-not-is_start-clause-value : goal.returns-then-not-is_start-clause-value
returns-then-not-is_start-clause-value c = rw (body-listing (header_value c.args.header) c.args.params.now.core_size c.args.params.now.max_length c.args.lines.number (lines_of c.args.lines.rest.now) (listing c.in-Ok.reading) (rw c.core_size.ensures.value at c.in-Ok.ensures.value)) (search rules)

pub returns-clause-value : goal.returns-clause-value
returns-clause-value c = rw (body-listing (header_value c.args.header) c.args.params.now.core_size c.args.params.now.max_length c.args.lines.number (lines_of c.args.lines.rest.now) (listing c.in-Ok.reading) (rw c.core_size.ensures.value at c.in-Ok.ensures.value)) (search rules)
