mod FarLines
mod LineByLine
mod MarkLaws
