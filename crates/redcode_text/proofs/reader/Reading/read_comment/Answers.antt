use Rattle.redcode_text.specs.Code.Comments.{IsName, IsAuthor, IsAssert, IsOther}
use Rattle.redcode_text.specs.Code.Readings.{reading_of}
use Rattle.redcode_text.specs.Code.Rows.{row_of}
use Rattle.redcode_text.proofs.CommentSteps.{as-meant}
use Rattle.redcode_text.proofs.reader.Reading.read_comment.Goals as goal

pub returns-in-Name : goal.returns-in-Name
returns-in-Name c = rw (as-meant (IsName c.in-Name.text.now) (row_of c.args.row) (reading_of c.args.self.now) c.in-Name.ensures.value) c.take_name.ensures

pub returns-in-Author : goal.returns-in-Author
returns-in-Author c = rw (as-meant (IsAuthor c.in-Author.text.now) (row_of c.args.row) (reading_of c.args.self.now) c.in-Author.ensures.value) c.take_author.ensures

pub returns-in-Assert : goal.returns-in-Assert
returns-in-Assert c = rw (as-meant (IsAssert c.in-Assert.at) (row_of c.args.row) (reading_of c.args.self.now) c.in-Assert.ensures.value) c.read_assert.ensures

pub returns-in-Other : goal.returns-in-Other
returns-in-Other c = record { value = as-meant IsOther (row_of c.args.row) (reading_of c.args.self.now) c.in-Other.ensures.value }
