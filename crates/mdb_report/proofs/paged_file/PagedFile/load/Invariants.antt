use Rattle.mdb_report.proofs.paged_file.PagedFile.load.Given as goal

-- any bytes that are not in memory
abbrev pub ghosts-load_in_pages : goal.ghosts-load_in_pages
ghosts-load_in_pages g a = record { bytes = g.unread }
