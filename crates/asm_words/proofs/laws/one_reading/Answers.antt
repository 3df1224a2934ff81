use Rattle.asm_words.proofs.LineLaws.{has_lines, has_no_other_lines}
use Rattle.asm_words.proofs.WordLaws.{has_words, has_no_other_words}
use Rattle.asm_words.proofs.QuoteLaws.{read_is_quoted, quoted_is_read}
use Rattle.asm_words.proofs.laws.one_reading.Goals as goal

pub returns-clause-lines : goal.returns-clause-lines
returns-clause-lines c = has_lines

pub returns-clause-only_lines : goal.returns-clause-only_lines
returns-clause-only_lines c = has_no_other_lines

pub returns-clause-words : goal.returns-clause-words
returns-clause-words c = has_words

pub returns-clause-only_words : goal.returns-clause-only_words
returns-clause-only_words c = has_no_other_words

pub returns-clause-quoted_so : goal.returns-clause-quoted_so
returns-clause-quoted_so c = read_is_quoted

pub returns-clause-read_so : goal.returns-clause-read_so
returns-clause-read_so c = quoted_is_read
