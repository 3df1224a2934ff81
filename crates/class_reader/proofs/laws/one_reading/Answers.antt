use Rattle.class_reader.proofs.ClassLaws as classes
use Rattle.class_texts.proofs.TextLaws as texts
use Rattle.class_reader.proofs.laws.one_reading.Goals as goal

pub returns-clause-one_file : goal.returns-clause-one_file
returns-clause-one_file c = classes.one_file

pub returns-clause-one_fault : goal.returns-clause-one_fault
returns-clause-one_fault c = classes.one_fault

pub returns-clause-never_both : goal.returns-clause-never_both
returns-clause-never_both c = classes.never_both

pub returns-clause-one_spelling : goal.returns-clause-one_spelling
returns-clause-one_spelling c = texts.one_spelling

pub returns-clause-one_text : goal.returns-clause-one_text
returns-clause-one_text c = texts.one_text
