mod Numbers
mod Rooms
mod Cases
mod Counts
