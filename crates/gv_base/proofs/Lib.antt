pub mod LineStarts
