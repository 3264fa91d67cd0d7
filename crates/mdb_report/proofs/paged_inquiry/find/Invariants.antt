use Rattle.mdb_report.proofs.paged_inquiry.find.Given as goal

abbrev pub ghost-find : goal.ghost-find
ghost-find g a = λ _. 0
