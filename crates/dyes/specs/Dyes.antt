-- The book that a dye book holds.
use Rattle.shelf.specs.Held.{held, size}
use Rattle.dyes.specs.declared.book.DyeBook.{DyeBook}
use Rattle.dyes.specs.Book.{Book}
use Rattle.dyes.specs.Shelves.{records_book}

abbrev pub dye_book : DyeBook → Book
dye_book d = records_book (held d.shelf) (size d.shelf)
