use Rattle.threev_top.proofs.calls.tell_stop.Goals as goal

pub returns-in-NoMemory-clause-told : goal.returns-in-NoMemory-clause-told
returns-in-NoMemory-clause-told g c = rw c.in-NoMemory.is c.tell_line.ensures

pub returns-in-Words-clause-told : goal.returns-in-Words-clause-told
returns-in-Words-clause-told g c = rw c.in-Words.is c.tell_line-in-Words.ensures

pub returns-in-Reading-clause-told : goal.returns-in-Reading-clause-told
returns-in-Reading-clause-told g c = rw c.in-Reading.is c.tell_line-in-Reading.ensures

pub returns-in-Writing-clause-told : goal.returns-in-Writing-clause-told
returns-in-Writing-clause-told g c = rw c.in-Writing.is c.tell_line-in-Writing.ensures
