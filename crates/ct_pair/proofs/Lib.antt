mod Acted
mod Events
mod Opened
mod Steps
