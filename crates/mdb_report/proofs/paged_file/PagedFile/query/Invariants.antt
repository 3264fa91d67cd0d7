use Rattle.mdb_report.proofs.paged_file.PagedFile.query.Given as goal

-- any bytes that are not in memory
abbrev pub ghosts-query_in_pages : goal.ghosts-query_in_pages
ghosts-query_in_pages g a = record { bytes = g.unread }
