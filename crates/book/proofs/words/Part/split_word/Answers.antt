use Rattle.book.proofs.Cutting.{first_word, last_word}
use Rattle.book.proofs.words.Part.split_word.Goals as goal

pub returns-in-Some : goal.returns-in-Some
returns-in-Some c = first_word c.args.self c.in-Some.word c.in-Some.left c.in-Some.ensures

pub returns-in-None : goal.returns-in-None
returns-in-None c = last_word c.args.self c.in-None.ensures
