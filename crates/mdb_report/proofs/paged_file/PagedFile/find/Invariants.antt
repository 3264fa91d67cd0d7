use Rattle.mdb_report.proofs.paged_file.PagedFile.find.Given as goal

-- any bytes that are not in memory
abbrev pub ghosts-find_in_pages : goal.ghosts-find_in_pages
ghosts-find_in_pages g a = record { bytes = g.unread }
