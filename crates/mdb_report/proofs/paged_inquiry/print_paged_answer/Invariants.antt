use Rattle.mdb_report.proofs.paged_inquiry.print_paged_answer.Given as goal

abbrev pub ghost-load : goal.ghost-load
ghost-load g a = λ _. 0

abbrev pub ghost-query : goal.ghost-query
ghost-query g a = λ _. 0
